use Rattle.std.proofs.Common.{◌≡◌, ◌∷◌, ◌+◌, ◌<◌, rules, sym, ap, subst, ◌∙◌, Some, [], arith}
use Rattle.atomic_table.specs.Table.{rest}
use Rattle.registration_desk.specs.Clerks.{ClerkKnows}
use Rattle.registration_desk.specs.Rule.{HasReplies}
use Rattle.registration_desk.proofs.Releases.{release_allowed}
use Rattle.registration_desk.proofs.Held.{first_is, one_more}
use Rattle.registration_desk.proofs.serving.serve_held.Goals as goal

pub exchange-requires : goal.exchange-requires
exchange-requires c =
    let h = c.requires.held in (
      c.requires.of_desk,
      (Some h.state, h.carried ∙ ap (λ l. (0, Some h.state) ∷ rest l) (sym h.carried)),
    )

pub store-requires : goal.store-requires
store-requires c =
    let h = c.requires.held in
    let a = c.exchange.ensures in
    let e = c.exchange-2.ensures in
    let me = c.exchange-2.new.seat.me in
    let knows : me.0 ≡ c.args.seat.now.me.0 = ap (λ m. m.0) e.3 ∙ ap (λ m. m.0) a.3 in
    let state : h.state ≡ c.in-Some.state = first_is _ _ _ _ h.carried a.2 c.in-Some.is in
    let carried : me.1 ≡ (0, Some c.serve.new.self) ∷ [] =
    ap (λ m. m.1) e.3
    ∙ (ap (λ m. (0, Some c.serve.new.self) ∷ rest m.1) a.3
    ∙ ap (λ l. (0, Some c.serve.new.self) ∷ rest l) h.carried) in
    let fits : HasReplies me.0.seats me.0.requests (h.number + 1) c.serve.new.self =
    one_more c.args.seat.now.me.0 me.0 h.number h.state c.in-Some.state c.serve.new.self
    c.serve.result h.fits knows state c.serve.ensures.desk in
    let count = c.calls.ensures.count in
    let replies = fits.count in (
      e.0 ∙ (a.0 ∙ c.requires.of_desk),
      search rules,
      release_allowed c.args.desk.now.table.shared.key _ _ _ h.number _ c.serve.new.self
          c.args.desk.now.slots_are (subst (λ (k : ClerkKnows). 0 < k.share) (sym knows) h.live)
          (ap (λ k. k.holds) knows ∙ h.holds) carried fits (omega arith),
    )
