-- Where the sorted short forms of numbers all differ, no number stands twice.
use Rattle.std.proofs.Common.{◌≡◌, ℕ, ◌/◌, ◌<◌, ◌≤◌, List, length, map, sym, ap, ◌∙◌, arith}
use Rattle.std.specs.Prelude.{slice_index, IsPermutation}
use Rattle.std.proofs.lemmas.List.{get_or-map, length-map}
use Rattle.rank_lists.specs.declared.keys.TheConstants.{PLACES}
use Rattle.rank_lists.specs.Repeats.{HasNoRepeat, HasUnequalNeighbours}
use Rattle.market.proofs.Copies.{copies, copies-permutation, copies-twice, Rises}
use Rattle.rank_lists.proofs.NoCopies.{copies-differ}

-- where no two neighbours of the sorted short forms are equal no number stands twice
pub short-distinct : (form : ℕ → ℕ) (placed sorted : List ℕ)
    → IsPermutation (map (λ p. form (p / PLACES)) placed) sorted → Rises sorted
    → HasUnequalNeighbours sorted (length sorted)
    → HasNoRepeat (map (λ p. p / PLACES) placed) (length placed)
short-distinct form placed sorted p up differ i j below lt same =
    let short = map (λ p. form (p / PLACES)) placed in
    let number : (k : ℕ) → k < length placed
    → slice_index (map (λ p. p / PLACES) placed) k ≡ slice_index placed k / PLACES =
    λ k lt. get_or-map (λ p. p / PLACES) placed k 0 0 lt in
    let form_at : (k : ℕ) → k < length placed
    → slice_index short k ≡ form (slice_index placed k / PLACES) =
    λ k lt. get_or-map (λ p. form (p / PLACES)) placed k 0 0 lt in
    let size = length-map placed (λ p. form (p / PLACES)) in
    let equal : slice_index short i ≡ slice_index short j =
    form_at i (omega arith) ∙ ap form (sym (number i (omega arith)) ∙ same ∙ number j lt)
    ∙ sym (form_at j lt) in
    let x = slice_index short j in
    let twice : 2 ≤ copies x short = copies-twice short i j below (omega arith) equal in
    let kept : copies x sorted ≡ copies x short = copies-permutation x short sorted p in
    let once : copies x sorted ≤ 1 = copies-differ x sorted up differ in
    omega arith
