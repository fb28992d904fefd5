use Rattle.std.proofs.Common.{ℕ, ◌<◌, true, Option, inl, inr, refl, sym, ap, ◌∙◌, subst, arith, ⊎_elim}
use Rattle.std.proofs.lemmas.Bool.{false≢true}
use Rattle.market.specs.Problems.{quota_of, kind_of, rank_of}
use Rattle.market.specs.BaseRanks.{base_rank}
use Rattle.market.specs.declared.programme.Prog.{Prog}
use Rattle.reports.proofs.Programmes.{read-kind}
use Rattle.stability_audit.specs.FirstVerdicts.{is_better}
use Rattle.stability_audit.proofs.Rooms.{worse-true, worse-from}
use Rattle.stability_audit.proofs.candidate.would_take.Goals as goal

pub rank-requires-clause-kind : goal.rank-requires-clause-kind
rank-requires-clause-kind c =
    let m = c.args.market.now in
    let p = c.args.programme in
    subst (λ (t : ℕ). t < m.types)
    (sym (read-kind m p c.programme-kind.result c.programme-kind.ensures))
    (c.candidate_count.ensures.valid.kinds p c.requires.programme)

pub returns-then-not-admits : goal.returns-then-not-admits
returns-then-not-admits c = (
  λ no_. absurd (false≢true no_),
  λ takes. absurd (false≢true (sym c.if-not-admits.true ∙ c.admits.ensures ∙ takes.admitted)),
)

pub returns-then-held-quota : goal.returns-then-held-quota
unfolding quota_of
returns-then-held-quota c =
    let p = c.args.programme in
    let quota = ap (λ (q : Prog). q.quota) c.programme-kind.ensures in
    let held = c.held.ensures ∙ c.requires.bases.holders p c.requires.programme in (
      λ _. record {
        admitted = sym c.admits.ensures ∙ c.if-not-admits.false;
        room = inl (omega arith);
      },
      λ _. refl,
    )

pub returns : goal.returns
unfolding quota_of
returns c =
    let m = c.args.market.now in
    let i = c.args.candidate in
    let p = c.args.programme in
    let placed = c.args.placement.now in
    let kind = read-kind m p c.programme-kind.result c.programme-kind.ensures in
    let quota = ap (λ (q : Prog). q.quota) c.programme-kind.ensures in
    let held = c.held.ensures ∙ c.requires.bases.holders p c.requires.programme in
    let test = c.is_better.ensures
    ∙ ap (λ (o : Option ℕ). is_better o c.base.result)
    (c.rank.ensures ∙ ap (λ (t : ℕ). rank_of m t i) kind)
    ∙ ap (is_better (rank_of m (kind_of m p) i))
    (c.base.ensures ∙ c.requires.bases.bases p c.requires.programme) in (
      λ better. record {
        admitted = sym c.admits.ensures ∙ c.if-not-admits.false;
        room = inr (worse-from m placed i p (sym test ∙ better));
      },
      λ takes. ⊎_elim
          (λ free. absurd (omega arith))
          (λ worse. test ∙ worse-true m placed i p worse)
          takes.room,
    )
