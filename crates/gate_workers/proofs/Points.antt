-- A worker's seat has come to the points of its tries on the mark.
use Rattle.std.proofs.Common.{◌≡◌, Bool, true, false, not, Option, refl, sym, ap, ◌∙◌, arith, ℕ}
use Rattle.interleaving_core.specs.declared.parts.Holding.{Holding}
use Rattle.interleaving_core.specs.declared.parts.Phase.TheVariants.{Idle}
use Rattle.interleaving_core.specs.Core.{turn_count, hold_at}
use Rattle.interleaving_core.specs.Events.{with_hold, phase_after_look}
use Rattle.word_rule.specs.Layout.{is_held, mark_number}
use Rattle.word_rule.specs.Views.{SeatKnows, with_core}
use Rattle.word_rule.specs.Holder.{as_holder, tried, released_with}
use Rattle.word_rule.specs.Rounds.{knows}
use Rattle.word_rule.specs.declared.seat.WorkSeat.{WorkSeat}
use Rattle.commit_book.specs.Holder.{MayTake, IsTake, IsLook, IsRelease}
use Rattle.word_rule.proofs.HolderCopies.{held}
use Rattle.gate_workers.specs.Workers.{HasCome}
use Rattle.gate_workers.specs.declared.gate.GatePoint.TheVariants.{Missed, Released}

was_held : (b : Bool) → false ≡ not b → b ≡ true
was_held true e = refl
was_held false e = absurd (cc (e))

-- a try that found the mark held
pub has_missed : (old new : WorkSeat) → (knows old).core.done ≡ false → MayTake old
    → IsTake old new false → HasCome (knows new) Missed
has_missed old new working may took =
    let number : ℕ = mark_number took.found in
    let view : knows new ≡ tried (knows old) true number =
    took.view
    ∙ ap (λ b. tried (knows old) b number) (was_held (is_held took.found) took.answered) in
    let tries = ap (λ (x : SeatKnows). x.tries) view in (
      record {
        claim = ap (λ (x : SeatKnows). x.core.claim) view ∙ may.0;
        hold = ap (λ (x : SeatKnows). x.core.hold) view ∙ may.1;
        owes = ap (λ (x : SeatKnows). x.core.owes) view;
        working = ap (λ (x : SeatKnows). x.core.done) view ∙ working;
        tried = omega arith;
      },
      ap (λ (x : SeatKnows). x.missed) view,
    )

-- a look leaves the seat what it was but for its holding
record HasLooked (at mid : WorkSeat) : Type 0 where
  hold : Option Holding
  view : knows mid ≡ with_core (knows at) (with_hold (knows at).core hold)

has_looked : (at mid : WorkSeat) (answer : Option ℕ) → IsLook at mid answer → HasLooked at mid
has_looked at mid answer look =
    elim (native.Mathlib.Decide.dec_le (turn_count (knows at).dict) look.committed) [
      | yes l ↦ record { hold = (knows at).core.hold; view = (look.all l).0 }
      | no n ↦
          let saw = look.left (omega arith) in
          record { hold = hold_at look.committed (phase_after_look saw.found); view = saw.view }
    ]

-- the seat after a try that took the mark with this number, with so many turns committed now, and
-- so many by this seat in all
abbrev pub at_work : SeatKnows → ℕ → ℕ → ℕ → SeatKnows
at_work x number count sealed =
    record (as_holder (tried x false number) count Idle) { sealed = sealed }

-- a release after a try that took the mark, and a look
pub has_released : (old at mid new : WorkSeat) (number count sealed : ℕ) (answer : Option ℕ)
    → (knows old).core.done ≡ false → MayTake old
    → knows at ≡ at_work (knows old) number count sealed
    → IsLook at mid answer → IsRelease mid new → HasCome (knows new) (Released mid.committed)
has_released old at mid new number count sealed answer working may took look free =
    let same = held mid free.committed free.phase free.hold in
    let looked = has_looked at mid answer look in
    let view : knows new
    ≡ released_with (record (tried (knows old) false number) { sealed = sealed }) free.committed =
    free.view
    ∙ (ap (λ (x : SeatKnows). released_with x free.committed) looked.view
    ∙ ap (λ (x : SeatKnows). released_with x free.committed) took) in
    let tries = ap (λ (x : SeatKnows). x.tries) view in (
      record {
        claim = ap (λ (x : SeatKnows). x.core.claim) view ∙ may.0;
        hold = ap (λ (x : SeatKnows). x.core.hold) view;
        owes = ap (λ (x : SeatKnows). x.core.owes) view;
        working = ap (λ (x : SeatKnows). x.core.done) view ∙ working;
        tried = omega arith;
      },
      ap (λ (x : SeatKnows). x.missed) view,
      ap (λ (x : SeatKnows). x.released) view ∙ sym same.1,
    )
