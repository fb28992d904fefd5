-- The verdicts on a placement, and which one comes first.
use Rattle.std.specs.Prelude.{◌≡◌, ℕ, ◌<◌, List, Option, Some}
use Rattle.market.specs.Counting.{count_of}
use Rattle.market.specs.Problems.{Problem, IsAcceptable, place_of, list_of, quota_of}
use Rattle.market.specs.Stability.{IsBlocking, IsStable, held_by}
use Rattle.stability_audit.specs.declared.verdict.Verdict.{Verdict}
use Rattle.stability_audit.specs.declared.verdict.Verdict.TheVariants.{Stable, OverQuota, NotAcceptable, Blocking}

-- a programme has more holders than its quota
abbrev pub IsOverQuota : Problem → List (Option ℕ) → ℕ → Type 0
IsOverQuota m held p = quota_of m p < count_of p held

-- what a candidate holds is acceptable, or nothing
abbrev pub HeldIsAcceptable : Problem → List (Option ℕ) → ℕ → Type 0
HeldIsAcceptable m held i = (p : ℕ) → held_by held i ≡ Some p → IsAcceptable m i p

-- the first programme over its quota
pub record IsFirstOverQuota (m : Problem) (held : List (Option ℕ)) (p : ℕ) : Type 0 where
  pub over : IsOverQuota m held p
  pub first : (q : ℕ) → q < p → IsOverQuota m held q → ⊥

-- no programme is over its quota, and this is the first candidate who holds one that is not
-- acceptable
pub record IsFirstNotAcceptable (m : Problem) (held : List (Option ℕ)) (i : ℕ) : Type 0 where
  pub quotas : (p : ℕ) → IsOverQuota m held p → ⊥
  pub unacceptable : HeldIsAcceptable m held i → ⊥
  pub first : (j : ℕ) → j < i → HeldIsAcceptable m held j

-- all hold what is acceptable and no programme is over its quota; the pair blocks, no earlier
-- candidate blocks with any programme, nor this one with a programme listed before
pub record IsFirstBlocking (m : Problem) (held : List (Option ℕ)) (i p : ℕ) : Type 0 where
  pub quotas : (q : ℕ) → IsOverQuota m held q → ⊥
  pub acceptable : (j : ℕ) → HeldIsAcceptable m held j
  pub blocks : IsBlocking m held i p
  pub first_candidate : (j q : ℕ) → j < i → IsBlocking m held j q → ⊥
  pub first_entry : (q : ℕ) → place_of q (list_of m i) < place_of p (list_of m i)
      → IsBlocking m held i q → ⊥

-- this is the first verdict, in this order: programmes over their quota, candidates who hold a
-- programme that is not acceptable, blocking pairs by candidate and list, stable
abbrev pub IsVerdict : Problem → List (Option ℕ) → Verdict → Type 0
IsVerdict m held Stable = IsStable m held
IsVerdict m held (OverQuota p) = IsFirstOverQuota m held p
IsVerdict m held (NotAcceptable i) = IsFirstNotAcceptable m held i
IsVerdict m held (Blocking i p) = IsFirstBlocking m held i p
