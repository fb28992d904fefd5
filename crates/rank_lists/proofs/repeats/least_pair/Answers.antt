use Rattle.std.proofs.Common.{◌≡◌, ℕ, ◌<◌, ◌≤◌, List, length, arith, subst, ⊎_elim, Option, Some, None}
use Rattle.std.proofs.lemmas.Bool.{cases_lt}
use Rattle.rank_lists.specs.Repeats.{IsLeastPair}
use Rattle.rank_lists.specs.declared.repeats.Repeat.{Repeat}
use Rattle.rank_lists.proofs.repeats.least_pair.Goals as goal

-- lists of at most one number have no neighbours
no-neighbours : (sorted : List ℕ) (n m : ℕ) (r : Option Repeat) → n ≤ 1 → IsLeastPair sorted n r
    → m ≤ 1 → IsLeastPair sorted m r
no-neighbours sorted n m None short none le = λ k lt pair. absurd (omega arith)
no-neighbours sorted n m (Some r) short least le = let inside = least.inside in absurd (omega arith)

pub returns : goal.returns
returns c = ⊎_elim
    (λ (empty : length c.args.sorted.now < 1). no-neighbours c.args.sorted.now c.loop-index.index _
    c.loop-index.least (omega arith) c.loop-index.invariant.least (omega arith))
    (λ (full : 1 ≤ length c.args.sorted.now).
    let all : c.loop-index.index ≡ length c.args.sorted.now =
    omega (arith, c.loop-index.auto.index-end full) in
    subst (λ n. IsLeastPair c.args.sorted.now n c.loop-index.least) all
    c.loop-index.invariant.least)
    (cases_lt (length c.args.sorted.now) 1)
