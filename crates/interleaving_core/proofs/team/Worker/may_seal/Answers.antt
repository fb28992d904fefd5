use Rattle.std.proofs.Common.{Some, ap, refl, ◌∙◌}
use Rattle.interleaving_core.specs.declared.parts.Phase.TheVariants.{Scan, Seated, Raised}
use Rattle.interleaving_core.proofs.team.Worker.may_seal.Goals as goal

pub returns-in-Seated : goal.returns-in-Seated
returns-in-Seated c =
    let now = c.in-Some.holding.committed in (
      Seated c.in-Seated.place c.in-Seated.filled,
      (
        c.in-Some.is ∙ ap (λ p. Some record { committed = now; phase = p }) c.in-Seated.is,
        (refl, c.if-not-filled.true),
      ),
    )

pub returns-in-Raised : goal.returns-in-Raised
returns-in-Raised c =
    let now = c.in-Some.holding.committed in (
      Raised c.in-Raised.place,
      (c.in-Some.is ∙ ap (λ p. Some record { committed = now; phase = p }) c.in-Raised.is, refl),
    )

pub returns-in-Scan : goal.returns-in-Scan
returns-in-Scan c =
    let now = c.in-Some.holding.committed in (
      Scan c.in-Scan.place,
      (
        c.in-Some.is ∙ ap (λ p. Some record { committed = now; phase = p }) c.in-Scan.is,
        (refl, c.if-place-list_length.true ∙ c.list_length.ensures),
      ),
    )
