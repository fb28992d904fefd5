-- What the audit looks at: one candidate, and the entries of the list one by one.
use Rattle.std.specs.Prelude.{◌⊎◌, ℕ, ◌<◌, List, length, IsTrue, Option, Some, None}
use Rattle.market.specs.Counting.{count_of}
use Rattle.market.specs.Problems.{Problem, admits, place_of, list_of, quota_of}
use Rattle.market.specs.Stability.{HasWorseHolder, IsBlocking}
use Rattle.stability_audit.specs.Verdicts.{HeldIsAcceptable}

-- the first candidate who holds a programme that is not acceptable
pub record IsFirstHolder (m : Problem) (held : List (Option ℕ)) (i : ℕ) : Type 0 where
  pub unacceptable : HeldIsAcceptable m held i → ⊥
  pub first : (j : ℕ) → j < i → HeldIsAcceptable m held j

-- a programme admits a candidate, and has a free seat or a holder of worse rank
pub record WouldTake (m : Problem) (held : List (Option ℕ)) (i p : ℕ) : Type 0 where
  pub admitted : IsTrue (admits m p i)
  pub room : (count_of p held < quota_of m p) ⊎ HasWorseHolder m held i p

-- the first entry of a candidate's list with which the candidate blocks
pub record IsFirstEntry (m : Problem) (held : List (Option ℕ)) (i p : ℕ) : Type 0 where
  pub blocks : IsBlocking m held i p
  pub first : (q : ℕ) → place_of q (list_of m i) < place_of p (list_of m i)
      → IsBlocking m held i q → ⊥

-- what a look through the candidate's list gives: the first entry with which it blocks, or none
-- where it blocks with no programme
abbrev pub IsLookedThrough : Problem → List (Option ℕ) → ℕ → Option ℕ → Type 0
IsLookedThrough m held i (Some p) = IsFirstEntry m held i p
IsLookedThrough m held i None = (p : ℕ) → IsBlocking m held i p → ⊥

-- a candidate blocks with some programme
abbrev pub BlocksWithSome : Problem → List (Option ℕ) → ℕ → Type 0
BlocksWithSome m held i = (p : ℕ) × IsBlocking m held i p

-- the first candidate who blocks with some programme
pub record IsFirstToBlock (m : Problem) (held : List (Option ℕ)) (i : ℕ) : Type 0 where
  pub candidate : i < length m.lists
  pub blocks : BlocksWithSome m held i
  pub first : (j : ℕ) → j < i → BlocksWithSome m held j → ⊥
