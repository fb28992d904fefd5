-- A verdict is that of a stable placement exactly where the placement is stable.
use Rattle.std.proofs.Common.{◌≡◌, ℕ, List, Option, refl, arith}
use Rattle.std.specs.Prelude.{◌↔◌}
use Rattle.market.specs.Problems.{Problem}
use Rattle.market.specs.Stability.{IsStable}
use Rattle.stability_audit.specs.Verdicts.{IsVerdict}
use Rattle.stability_audit.specs.declared.verdict.Verdict.{Verdict}
use Rattle.stability_audit.specs.declared.verdict.Verdict.TheVariants.{Stable, OverQuota, NotAcceptable, Blocking}

-- a verdict on this placement is `Stable` exactly where the placement is stable
pub verdict-stable : (m : Problem) (held : List (Option ℕ)) (v : Verdict) → IsVerdict m held v
    → (v ≡ Stable) ↔ IsStable m held
verdict-stable m held Stable h = (λ _. h, λ _. refl)
verdict-stable m held (OverQuota p) h = (
  λ e. absurd cc,
  λ s.
      let over = h.over in
      let most = s.placement.quotas p in
      absurd (omega arith),
)
verdict-stable m held (NotAcceptable i) h =
    (λ e. absurd cc, λ s. absurd (h.unacceptable (λ p holds. s.placement.acceptable i p holds)))
verdict-stable m held (Blocking i p) h =
    (λ e. absurd cc, λ s. absurd (s.unblocked i p h.blocks))
