-- The exchange has a second stable placement: each candidate holds the first wish, so nobody
-- prefers another programme, and no pair can block it.
use Rattle.std.proofs.Common.{◌≡◌, ℕ, zero, suc, ◌≤◌, List, [], ◌∷◌, Option, Some, refl, sym, subst, arith}
use Rattle.std.specs.Prelude.{◌==◌}
use Rattle.std.proofs.lemmas.Bool.{ne_eqb}
use Rattle.std.proofs.lemmas.Option.{none-some, same_Some}
use Rattle.market.specs.Counting.{count_of}
use Rattle.market.specs.Problems.{IsAcceptable, quota_of}
use Rattle.market.specs.Stability.{held_by, IsBlocking, IsStable}
use Rattle.market.specs.Examples.{exchange}
use Rattle.market.proofs.Turns.{no_more}
use Rattle.market.proofs.Computes.{computes}

-- each candidate holds the first wish
abbrev exchanged : List (Option ℕ)
exchanged = Some 0 ∷ Some 1 ∷ []

-- one programme is held
wish : (p q : ℕ) → Some p ≡ Some q → q ≡ p
wish p q e = sym (same_Some p q e)

-- the first wish of the first candidate is acceptable
acceptable-0 : IsAcceptable exchange 0 0
unfolding computes
acceptable-0 = record { listed = omega arith; admitted = refl }

-- so is that of the second
acceptable-1 : IsAcceptable exchange 1 1
unfolding computes
acceptable-1 = record { listed = omega arith; admitted = refl }

-- what is held is acceptable
acceptable : (i p : ℕ) → held_by exchanged i ≡ Some p → IsAcceptable exchange i p
acceptable zero p e = subst (IsAcceptable exchange 0) (same_Some 0 p e) acceptable-0
acceptable (suc zero) p e = subst (IsAcceptable exchange 1) (same_Some 1 p e) acceptable-1
acceptable (suc (suc i)) p e = absurd (none-some p e)

-- no quota is exceeded
within_quotas : (p : ℕ) → count_of p exchanged ≤ quota_of exchange p
unfolding computes
within_quotas zero = omega arith
within_quotas (suc zero) = omega arith
within_quotas (suc (suc p)) =
    let first = no_more (0 == suc (suc p)) (ne_eqb 0 (suc (suc p)) (λ e. omega arith)) in
    let second = no_more (1 == suc (suc p)) (ne_eqb 1 (suc (suc p)) (λ e. omega arith)) in
    omega arith

-- no pair blocks
unblocked : (i p : ℕ) → IsBlocking exchange exchanged i p → ⊥
unfolding computes
unblocked zero p b = let before = b.preferred.0 in absurd (omega arith)
unblocked (suc zero) p b = let before = b.preferred.0 in absurd (omega arith)
unblocked (suc (suc i)) p b = let listed = b.acceptable.listed in absurd (omega arith)

-- so the exchange is stable
pub exchanged-stable : IsStable exchange exchanged
exchanged-stable =
    record {
      placement = record { candidates = refl; acceptable = acceptable; quotas = within_quotas };
      unblocked = unblocked;
    }
