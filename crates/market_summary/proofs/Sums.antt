-- What all candidates list, and all programmes offer, is few enough to be counted.
use Rattle.std.proofs.Common.{ℕ, ◌*◌, ◌≤◌, length, arith}
use Rattle.market.specs.Counting.{sum_below}
use Rattle.market.specs.Problems.{IsValid, Problem, list_of, quota_of}
use Rattle.market.specs.declared.limits.TheConstants.{MAX_CANDIDATES, MAX_ENTRIES, MAX_PROGRAMMES, MAX_QUOTA}
use Rattle.market.proofs.Plain.{sum_bound}

-- the entries of the first candidates
pub few-entries : (m : Problem) (k : ℕ) → IsValid m → k ≤ length m.lists
    → sum_below (λ i. length (list_of m i)) k ≤ MAX_CANDIDATES * MAX_ENTRIES
few-entries m k valid within =
    let bound = sum_bound (λ i. length (list_of m i)) MAX_ENTRIES k
    (λ i few. valid.list_lengths i (omega (arith, few, within))) in
    omega (arith, bound, within, valid.candidates)

-- the seats of the first programmes
pub few-seats : (m : Problem) (k : ℕ) → IsValid m → k ≤ length m.programmes
    → sum_below (quota_of m) k ≤ MAX_PROGRAMMES * MAX_QUOTA
few-seats m k valid within =
    let bound = sum_bound (quota_of m) MAX_QUOTA k
    (λ p few. valid.quotas p (omega (arith, few, within))) in
    omega (arith, bound, within, valid.programmes)
