-- One placement compared with another, candidate by candidate, and one market with a wider one.
use Rattle.std.specs.Prelude.{◌≡◌, ℕ, ◌≤◌, List, Option, Some, None}
use Rattle.market.specs.Problems.{Problem, place_of, kind_of, quota_of, bar_of, list_of}
use Rattle.market.specs.Stability.{held_by, IsStable}

-- what is held is at least what is given: who is given p holds p or a programme listed higher, and
-- who is given nothing may hold anything
abbrev pub HoldsAtLeast : List ℕ → Option ℕ → Option ℕ → Type 0
HoldsAtLeast list None held = Unit {0}
HoldsAtLeast list (Some p) None = ⊥
HoldsAtLeast list (Some p) (Some q) = place_of q list ≤ place_of p list

-- the second placement, `held`, gives each candidate at least what the first, `given`, does: the
-- same programme or one listed higher; whom the first gives nothing may hold anything in the second
abbrev pub GivesAtLeast : Problem → List (Option ℕ) → List (Option ℕ) → Type 0
GivesAtLeast m given held = (i : ℕ) → HoldsAtLeast (list_of m i) (held_by given i) (held_by held i)

-- the same market but for quotas, which are as large or larger in the second
pub record Widens (m wider : Problem) : Type 0 where
  pub types : wider.types ≡ m.types
  pub lists : wider.lists ≡ m.lists
  pub orders : wider.orders ≡ m.orders
  pub ranks : wider.ranks ≡ m.ranks
  pub kinds : (p : ℕ) → kind_of wider p ≡ kind_of m p
  pub bars : (p : ℕ) → bar_of wider p ≡ bar_of m p
  pub quotas : (p : ℕ) → quota_of m p ≤ quota_of wider p

-- stable, and in every stable placement each candidate holds the same programme or one listed
-- higher
pub record IsWorstStable (m : Problem) (held : List (Option ℕ)) : Type 0 where
  pub stable : IsStable m held
  pub worst : (other : List (Option ℕ)) → IsStable m other → GivesAtLeast m held other
