use Rattle.std.proofs.Common.{◌≡◌, ◌+◌, ◌<◌, ℕ, length, List, Option, sym, ap, ◌∙◌, subst, arith, rules, take, set}
use Rattle.std.proofs.lemmas.List.{length-take-le}
use Rattle.std.proofs.lemmas.List.Sums.{count_by-le-length}
use Rattle.std.proofs.Math.Seq.{take-length}
use Rattle.market.specs.Counting.{is_programme, count_of}
use Rattle.market.specs.Problems.{rank_of}
use Rattle.market.specs.BaseRanks.{base_rank, worse_of}
use Rattle.market.specs.Stability.{held_by}
use Rattle.reports.specs.BaseTables.{BaseTable, base_of}
use Rattle.reports.proofs.Holders.{HasCounted, HasCounted-none, HasCounted-skip, HasCounted-more}
use Rattle.reports.proofs.Programmes.{read-kind}
use Rattle.reports.proofs.bases.base_ranks.Goals as goal
use Rattle.reports.proofs.bases.base_ranks.Goals.{in-Some, in_default}

pub loop-candidate-init : goal.loop-candidate-init
loop-candidate-init c =
    HasCounted-none c.args.market.now c.args.placement.now _ (search rules) (search rules)

pub overflow_cast-candidate : goal.overflow_cast-candidate
overflow_cast-candidate c =
    let items = ap (λ (xs : List (Option ℕ)). length xs) c.held-holds-items.ensures in
    let few = c.candidate_count.ensures.valid.candidates in
    omega arith

pub rank-rank-requires-clause-kind : goal.rank-rank-requires-clause-kind
rank-rank-requires-clause-kind c =
    let m = c.args.market.now in
    let p = c.in-Some.programme in
    subst (λ (t : ℕ). t < m.types)
    (sym (read-kind m p c.programme-kind.result c.programme-kind.ensures))
    (c.candidate_count.ensures.valid.kinds p
    (c.requires.programmes c.loop-candidate.candidate p
    (ap (λ (xs : List (Option ℕ)). held_by xs c.loop-candidate.candidate)
    (sym c.held-holds-items.ensures) ∙ c.in-Some.is)))

pub add_holder-requires-clause-few : goal.add_holder-requires-clause-few
add_holder-requires-clause-few c =
    let held = c.args.placement.now in
    let p = c.in-Some.programme in
    let n = c.loop-candidate.candidate in
    let items = ap (λ (xs : List (Option ℕ)). length xs) c.held-holds-items.ensures in
    let few = c.candidate_count.ensures.valid.candidates in
    let count = c.loop-candidate.invariant.holders p
    (c.requires.programmes n p (ap (λ (xs : List (Option ℕ)). held_by xs n)
    (sym c.held-holds-items.ensures) ∙ c.in-Some.is)) in
    let most = count_by-le-length (is_programme p) (take n held) in
    let first = length-take-le n held (omega arith) in
    omega arith

pub loop-candidate-preserved : goal.loop-candidate-preserved
loop-candidate-preserved c =
    let m = c.args.market.now in
    let held = c.args.placement.now in
    let n = c.loop-candidate.candidate in
    let items = ap (λ (xs : List (Option ℕ)). length xs) c.held-holds-items.ensures in
    let within : n < length held = omega arith in
    let same = ap (λ (xs : List (Option ℕ)). held_by xs n) (sym c.held-holds-items.ensures) in
    elim c.match-holds.branch [
      | in-Some w ↦
          let p = w.in-Some.programme in
          let holds = same ∙ w.in-Some.is in
          let rank = w.rank-rank.ensures ∙ ap (λ (t : ℕ). rank_of m t n)
          (read-kind m p w.programme-kind.result w.programme-kind.ensures) in
          HasCounted-more m held c.loop-candidate.found c.match-holds.found n p within
          (c.requires.programmes n p holds) holds c.loop-candidate.invariant
          (ap (λ (t : BaseTable). t.bases) w.found-is ∙ w.add_holder.ensures.bases
          ∙ ap (λ (o : Option ℕ). set c.loop-candidate.found.bases p
          (worse_of (base_of c.loop-candidate.found p) o)) rank)
          (ap (λ (t : BaseTable). t.held) w.found-is ∙ w.add_holder.ensures.held)
      | in_default w ↦ subst (λ (t : BaseTable). HasCounted m held t (n + 1)) (sym w.found-is)
          (HasCounted-skip m held c.loop-candidate.found n within
          (same ∙ w.in_default.is) c.loop-candidate.invariant)
    ]

pub returns : goal.returns
unfolding base_rank
returns c =
    let m = c.args.market.now in
    let held = c.args.placement.now in
    let items = ap (λ (xs : List (Option ℕ)). length xs) c.held-holds-items.ensures in
    let n = c.loop-candidate.candidate in
    let all : n ≡ length held = omega arith in
    let counted = subst (λ (k : ℕ). HasCounted m held c.loop-candidate.found k) all
    c.loop-candidate.invariant in
    record {
      base_count = counted.base_count;
      held_count = counted.held_count;
      bases = counted.bases;
      holders = λ p l. counted.holders p l ∙ ap (count_of p) (take-length held);
    }
