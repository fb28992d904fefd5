-- What each atomic step of the mark's holder tells, by the word that it is made on and what was
-- found there: that the event could be made at this step, on its own word, and what the seat is
-- then.
use Rattle.std.specs.Prelude.{◌≡◌, ℕ, ◌+◌, ◌^◌, ◌<◌, ◌≤◌, Bool, true, false, nat_lt, nat_le, Option, Some, None, IsSome}
use Rattle.market.specs.Dictatorships.{Dictatorship}
use Rattle.interleaving_core.specs.declared.parts.Cell.{Cell}
use Rattle.interleaving_core.specs.declared.parts.Cell.TheVariants.{Posted}
use Rattle.interleaving_core.specs.declared.parts.Phase.{Phase}
use Rattle.interleaving_core.specs.declared.parts.Phase.TheVariants.{Idle, Scan, Ready, Seated, Raised}
use Rattle.interleaving_core.specs.declared.parts.Holding.{Holding}
use Rattle.interleaving_core.specs.declared.events.CoreEvent.TheVariants.{Take, Look, Weigh, Seat, Raise, Seal, Release}
use Rattle.interleaving_core.specs.Core.{View, turn_count, entry, quota_of, is_committed, hold_at}
use Rattle.interleaving_core.specs.Events.{with_hold, after_take, phase_after_look, phase_after_weigh}
use Rattle.word_rule.specs.Layout.{is_held, mark_number, cell_of}
use Rattle.word_rule.specs.Views.{SeatKnows, SeatMe, me_with, with_core}
use Rattle.word_rule.specs.Copies.{IsInRange}
use Rattle.word_rule.specs.Conditions.{MayMake}

-- the place that a cell is posted at
abbrev pub posted_place : Cell → Option ℕ
posted_place (Posted j) = Some j
posted_place _ = None

-- the seat as holder of the mark, with so many turns committed and in this phase
abbrev pub as_holder : SeatKnows → ℕ → Phase → SeatKnows
as_holder x committed phase = with_core x (with_hold x.core (hold_at committed phase))

-- the seat after one more try on the mark: where the mark was held, the try alone is made; else the
-- mark is this seat's, which keeps the number found
abbrev pub tried : SeatKnows → Bool → ℕ → SeatKnows
tried x true number =
    record x { core = after_take x.core true number; tries = x.tries + 1; missed = true }
tried x false number =
    record x {
      core = after_take x.core false number;
      tries = x.tries + 1;
      missed = false;
      took = number;
    }

-- a try on the mark; a seat with every share finds it free
pub record TellsTake (word : ℕ) (m : SeatMe) (found : ℕ) (n : SeatMe) : Type 0 where
  pub before : MayMake m Take word
  pub seat : n ≡ (tried m.0 (is_held found) (mark_number found), m.1)
  pub range : IsInRange n.0.dict n.0.core
  pub within : mark_number found ≤ turn_count m.0.dict
  pub free : m.0.share ≡ m.0.workers → is_held found ≡ false

-- the view after a look at the cell that this word shows
abbrev pub look_by : View → Option Holding → ℕ → View
look_by v None found = v
look_by v (Some h) found = with_hold v (hold_at h.committed (phase_after_look (cell_of found)))

-- a look: the cell found is not committed, and a done seat with every share finds it posted
pub record TellsLook (word : ℕ) (m : SeatMe) (found : ℕ) (n : SeatMe) : Type 0 where
  pub before : MayMake m Look word
  pub seat : n ≡ me_with m (look_by m.0.core m.0.core.hold found)
  pub range : IsInRange n.0.dict n.0.core
  pub uncommitted : is_committed (cell_of found) ≡ false
  pub posted : m.0.share ≡ m.0.workers → m.0.core.done ≡ true
      → IsSome (posted_place (cell_of found))

-- the phase after weighing turn c's next entry: it is full, or has a seat left, by the count found
abbrev pub weigh_phase : Dictatorship → ℕ → Phase → ℕ → Phase
weigh_phase d c (Scan j) found = phase_after_weigh (nat_lt found (quota_of d (entry d c j))) j
weigh_phase d c phase found = phase

-- the view after it
abbrev pub weigh_by : Dictatorship → View → Option Holding → ℕ → View
weigh_by d v None found = v
weigh_by d v (Some h) found =
    with_hold v (hold_at h.committed (weigh_phase d h.committed h.phase found))

-- a weighing
pub record TellsWeigh (word : ℕ) (m : SeatMe) (found : ℕ) (n : SeatMe) : Type 0 where
  pub before : MayMake m Weigh word
  pub seat : n ≡ me_with m (weigh_by m.0.dict m.0.core m.0.core.hold found)
  pub range : IsInRange n.0.dict n.0.core

-- the phase after a seat of turn c's entry is taken: whether one more than the count found is the
-- quota
abbrev pub seat_phase : Dictatorship → ℕ → Phase → ℕ → Phase
seat_phase d c (Ready j) found = Seated j (nat_le (quota_of d (entry d c j)) (found + 1))
seat_phase d c phase found = phase

-- the view after it
abbrev pub seat_by : Dictatorship → View → Option Holding → ℕ → View
seat_by d v None found = v
seat_by d v (Some h) found =
    with_hold v (hold_at h.committed (seat_phase d h.committed h.phase found))

-- a seat taken; the count found is far from a word's end
pub record TellsSeat (word : ℕ) (m : SeatMe) (found : ℕ) (n : SeatMe) : Type 0 where
  pub before : MayMake m Seat word
  pub seat : n ≡ me_with m (seat_by m.0.dict m.0.core m.0.core.hold found)
  pub range : IsInRange n.0.dict n.0.core
  pub small : found < 2 ^ 32

-- the phase after the flag of the programme that was just filled is raised
abbrev pub raise_phase : Phase → Phase
raise_phase (Seated j true) = Raised j
raise_phase phase = phase

-- the view after it
abbrev pub raise_by : View → Option Holding → View
raise_by v None = v
raise_by v (Some h) = with_hold v (hold_at h.committed (raise_phase h.phase))

-- a flag raised
pub record TellsRaise (word : ℕ) (m : SeatMe) (n : SeatMe) : Type 0 where
  pub before : MayMake m Raise word
  pub seat : n ≡ me_with m (raise_by m.0.core m.0.core.hold)
  pub range : IsInRange n.0.dict n.0.core

-- the seat as holder after it committed so many turns, from this one on
abbrev pub having_sealed : SeatKnows → ℕ → ℕ → SeatKnows
having_sealed x turn count =
    record x {
      core = with_hold x.core (hold_at (turn + count) Idle);
      sealed = x.sealed + count;
    }

-- the seat after a commit: one turn more is committed, by this seat
abbrev pub seal_by : SeatKnows → Option Holding → SeatKnows
seal_by x None = x
seal_by x (Some h) = having_sealed x h.committed 1

-- a commit
pub record TellsSeal (word : ℕ) (m : SeatMe) (n : SeatMe) : Type 0 where
  pub before : MayMake m Seal word
  pub seat : n ≡ (seal_by m.0 m.0.core.hold, m.1)
  pub range : IsInRange n.0.dict n.0.core

-- the seat after it gave the mark back with this number
abbrev pub released_with : SeatKnows → ℕ → SeatKnows
released_with x number = record x { core = with_hold x.core None; released = number }

-- a release: half the word stored is the number
pub record TellsRelease (word : ℕ) (m : SeatMe) (stored : ℕ) (n : SeatMe) : Type 0 where
  pub before : MayMake m Release word
  pub seat : n ≡ (released_with m.0 (mark_number stored), m.1)
  pub range : IsInRange n.0.dict n.0.core
