use Rattle.std.proofs.Common.{◌≡◌, ◌∙◌, ℕ, ◌<◌, set, ap, length, sym, subst, arith}
use Rattle.std.proofs.lemmas.List.{get_or_read}
use Rattle.market.specs.declared.programme.Prog.{Prog}
use Rattle.market.specs.Problems.{Problem, IsValid, problem, no_programme, programme_at, with_quota}
use Rattle.market.proofs.Quotas.{with_quota-valid}
use Rattle.market.proofs.parts.Parts.set_quota.Goals as goal

-- the programmes with this quota written to one of them
written : (m : Problem) (p quota : ℕ) (x : Prog) → x ≡ programme_at m p
    → problem m.types (set m.programmes p (record x { quota = quota })) m.lists m.orders m.ranks
    ≡ with_quota m p quota
unfolding with_quota
written m p quota x e =
    λ i. record m { programmes = set m.programmes p (record (e i) { quota = quota }) }

pub invariant_of-self : goal.invariant_of-self
invariant_of-self c =
    let s = c.self.inside in
    let m = problem s.types s.programmes.items s.lists.items s.orders.items s.ranks.items in
    let p = c.args.programme in
    let n = ap (λ (x : Problem). length x.programmes) c.self.view_is in
    let l : p < length s.programmes.items = omega (arith, c.requires.programme) in
    subst IsValid
    (sym (written m p c.args.quota c.index_mut.result.now
    (get_or_read s.programmes.items p c.index_mut.result.now l c.index_mut.ensures.value
    no_programme)))
    (with_quota-valid m p c.args.quota l c.self.invariant c.requires.quota)

pub returns : goal.returns
returns c =
    let s = c.self.inside in
    let m = problem s.types s.programmes.items s.lists.items s.orders.items s.ranks.items in
    let p = c.args.programme in
    let n = ap (λ (x : Problem). length x.programmes) c.self.view_is in
    let l : p < length s.programmes.items = omega (arith, c.requires.programme) in
    written m p c.args.quota c.index_mut.result.now
    (get_or_read s.programmes.items p c.index_mut.result.now l c.index_mut.ensures.value
    no_programme)
    ∙ ap (λ (x : Problem). with_quota x p c.args.quota) c.self.view_is
