use Rattle.std.proofs.Common.{◌≡◌, ◌∙◌, ℕ, ◌<◌, Option, ap, sym, subst}
use Rattle.market.specs.declared.programme.Prog.{Prog}
use Rattle.market.specs.Problems.{Problem, programme_at, kind_of, bar_of, rank_of, admits, admits_rank}
use Rattle.market.proofs.market.Market.admits.Goals as goal

-- the type of the programme that is looked up
kind-read : (m : Problem) (p : ℕ) (q : Prog) → q ≡ programme_at m p → q.kind ≡ kind_of m p
unfolding kind_of
kind-read m p q e = ap (λ (x : Prog). x.kind) e

-- and its bar
bar-read : (m : Problem) (p : ℕ) (q : Prog) → q ≡ programme_at m p → q.bar ≡ bar_of m p
unfolding bar_of
bar-read m p q e = ap (λ (x : Prog). x.bar) e

pub rank-requires-clause-kind : goal.rank-requires-clause-kind
rank-requires-clause-kind c =
    let m = c.args.self.now in
    let p = c.args.programme in
    subst (λ (t : ℕ). t < m.types) (sym (kind-read m p c.programme-programme.result
    c.programme-programme.ensures))
    (c.type_count.ensures.valid.kinds p c.requires.programme)

pub returns : goal.returns
unfolding admits
returns c =
    let m = c.args.self.now in
    let p = c.args.programme in
    let i = c.args.candidate in
    let q = c.programme-programme.result in
    let e = c.programme-programme.ensures in
    c.admits_rank.ensures
    ∙ ap (λ (bar : Option ℕ). admits_rank bar c.rank.result) (bar-read m p q e)
    ∙ ap (admits_rank (bar_of m p)) (c.rank.ensures
    ∙ ap (λ (t : ℕ). rank_of m t i) (kind-read m p q e))
