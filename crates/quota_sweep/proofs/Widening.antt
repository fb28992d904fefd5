-- More seats take nothing from anybody. The mechanism's placement in the wider market is stable
-- there, and no placement that is stable there gives a candidate less than the mechanism gives in
-- the narrower one. Of two quotas of one programme the larger makes the wider market.
use Rattle.std.proofs.Common.{◌≡◌, ℕ, ◌<◌, ◌≤◌, length, subst, arith}
use Rattle.std.proofs.lemmas.List.{length-set}
use Rattle.market.specs.declared.limits.TheConstants.{MAX_QUOTA}
use Rattle.market.specs.Comparisons.{GivesAtLeast, Widens}
use Rattle.market.specs.Mechanism.{mechanism_placement}
use Rattle.market.specs.Problems.{Problem, IsValid, list_of, programme_at, with_quota}
use Rattle.market.proofs.Quotas.{quota-changed, with_quota-again, with_quota-valid, with_quota-widens}
use Rattle.stable_laws.proofs.Stable.{stable}
use Rattle.stable_laws.proofs.Worst.{worst, worst_of_stable}
use Rattle.quota_sweep.specs.Sweeps.{AreWorstStable, HurtsNobody, placed_with}

-- the law
pub more_seats_help : (m wider : Problem) → IsValid m → IsValid wider → Widens m wider
    → GivesAtLeast m (mechanism_placement m) (mechanism_placement wider)
more_seats_help m wider v vw wide =
    worst m wider v vw wide (mechanism_placement wider) (stable wider vw)

-- as many programmes
pub length-same : (m : Problem) (p quota : ℕ)
    → length (with_quota m p quota).programmes ≡ length m.programmes
unfolding with_quota
length-same m p quota = length-set m.programmes p (record (programme_at m p) { quota = quota })

-- along the quotas of one programme
pub hurts_nobody : (m : Problem) → IsValid m → (p low high : ℕ) → p < length m.programmes
    → high ≤ MAX_QUOTA → HurtsNobody m p low high
unfolding placed_with with_quota list_of
hurts_nobody m v p low high l few less more from up to =
    let first = with_quota m p less in
    let second = with_quota m p more in
    let valid = with_quota-valid m p less l v (omega arith) in
    let wider = with_quota-valid m p more l v (omega arith) in
    let own = quota-changed m p less l in
    let size = length-same m p less in
    let wide = subst (Widens first) (with_quota-again m p less l more)
    (with_quota-widens first p more (omega arith) (omega arith)) in
    more_seats_help first second valid wider wide

-- with each quota the mechanism's placement is the worst stable one
pub are_worst_stable : (m : Problem) → IsValid m → (p low high : ℕ) → p < length m.programmes
    → high ≤ MAX_QUOTA → AreWorstStable m p low high
unfolding placed_with
are_worst_stable m v p low high l few quota from to =
    worst_of_stable (with_quota m p quota) (with_quota-valid m p quota l v (omega arith))
