-- What a placement leaves and fills, and what all stable placements of a market leave and fill.
use Rattle.std.specs.Prelude.{◌≡◌, ℕ, ◌<◌, List, length, map, filter, Contains, IsSome, Option, None, is_none, slice_index}
use Rattle.std.specs.List.{range_with_len}
use Rattle.std.specs.List.Sorted.{IsStrictlyIncreasing}
use Rattle.market.specs.Counting.{count_of}
use Rattle.market.specs.Mechanism.{mechanism_placement}
use Rattle.market.specs.Problems.{Problem}
use Rattle.market.specs.Stability.{held_by, IsStable}

-- candidates without a programme, and for each programme how many hold it
pub record Seats : Type 0 where
  pub unplaced : List ℕ
  pub held : List ℕ

-- the candidates to whom a placement gives nothing, rising
unfoldable pub unplaced_in : List (Option ℕ) → List ℕ
unplaced_in held = filter (λ i. is_none (held_by held i)) (range_with_len 0 (length held))

-- how many candidates hold each programme of the market
unfoldable pub holder_counts : Problem → List (Option ℕ) → List ℕ
holder_counts m held = map (λ p. count_of p held) (range_with_len 0 (length m.programmes))

-- both, of one placement
abbrev pub seats_in : Problem → List (Option ℕ) → Seats
seats_in m held = record { unplaced = unplaced_in held; held = holder_counts m held }

-- both are those of every stable placement, and there is one; so no stable placement gives a
-- candidate named here a programme, each gives one to every other candidate, and in each a
-- programme has as many holders as said
pub record IsOfEveryStable (m : Problem) (seats : Seats) : Type 0 where
  pub some : IsStable m (mechanism_placement m)
  pub every : (held : List (Option ℕ)) → IsStable m held → seats ≡ seats_in m held
  pub programmes : length seats.held ≡ length m.programmes
  pub rising : IsStrictlyIncreasing seats.unplaced
  pub never : (held : List (Option ℕ)) → IsStable m held → (i : ℕ) → Contains seats.unplaced i
      → held_by held i ≡ None
  pub always : (held : List (Option ℕ)) → IsStable m held → (i : ℕ) → i < length m.lists
      → (Contains seats.unplaced i → ⊥) → IsSome (held_by held i)
  pub number : (held : List (Option ℕ)) → IsStable m held → (p : ℕ) → p < length m.programmes
      → count_of p held ≡ slice_index seats.held p
