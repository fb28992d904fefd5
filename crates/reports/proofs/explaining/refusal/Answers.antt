use Rattle.std.proofs.Common.{◌≡◌, ℕ, ◌<◌, Option, ◌∙◌, sym, subst, ap}
use Rattle.market.specs.declared.programme.Prog.{Prog}
use Rattle.market.specs.Problems.{Problem, bar_of, kind_of, programme_at, rank_of}
use Rattle.reports.specs.Reasons.{refusal}
use Rattle.reports.proofs.Programmes.{read-kind}
use Rattle.reports.proofs.explaining.refusal.Goals as goal

-- by the programme that was looked up
read : (m : Problem) (p i : ℕ) (q : Prog) (rank : Option ℕ) → q ≡ programme_at m p
    → rank ≡ rank_of m q.kind i
    → refusal rank q.bar ≡ refusal (rank_of m (kind_of m p) i) (bar_of m p)
unfolding bar_of
read m p i q rank e r =
    ap (refusal rank) (ap (λ (x : Prog). x.bar) e)
    ∙ ap (λ (o : Option ℕ). refusal o (bar_of m p))
    (r ∙ ap (λ (t : ℕ). rank_of m t i) (read-kind m p q e))

pub rank-requires-clause-kind : goal.rank-requires-clause-kind
rank-requires-clause-kind c =
    let m = c.args.market.now in
    let p = c.args.programme in
    subst (λ (t : ℕ). t < m.types)
    (sym (read-kind m p c.programme-kind.result c.programme-kind.ensures))
    (c.candidate_count.ensures.valid.kinds p c.requires.programme)

pub returns-in-Some-Some : goal.returns-in-Some-Some
returns-in-Some-Some c =
    sym (λ j. refusal (c.in-Some-Some.is-0 j) (c.in-Some-Some.is-1 j))
    ∙ read c.args.market.now c.args.programme c.args.candidate c.programme-kind.result
    c.rank.result c.programme-kind.ensures c.rank.ensures

pub returns-in_default : goal.returns-in_default
returns-in_default c =
    sym (λ j. refusal (c.in_default.is-0 j) (c.in_default.is-1 j))
    ∙ read c.args.market.now c.args.programme c.args.candidate c.programme-kind.result
    c.rank.result c.programme-kind.ensures c.rank.ensures

pub returns-in_default-2 : goal.returns-in_default-2
returns-in_default-2 c =
    sym (ap (λ (o : Option ℕ). refusal o c.programme-kind.result.bar) c.in_default.is-0)
    ∙ read c.args.market.now c.args.programme c.args.candidate c.programme-kind.result
    c.rank.result c.programme-kind.ensures c.rank.ensures
