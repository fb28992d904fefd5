-- What a seat's run-time copies say of its view, and in which ranges they lie.
use Rattle.std.specs.Prelude.{◌≡◌, ℕ, ◌<◌, ◌≤◌, Bool, true, length, Option, Some, None}
use Rattle.market.specs.Dictatorships.{Dictatorship, list_at}
use Rattle.interleaving_core.specs.declared.parts.Phase.{Phase}
use Rattle.interleaving_core.specs.declared.parts.Phase.TheVariants.{Idle, Halted, Scan, Ready, Seated, Raised}
use Rattle.interleaving_core.specs.declared.parts.Holding.{Holding}
use Rattle.interleaving_core.specs.Core.{View, turn_count, claim_at, hold_at}

-- what a seat knows as holder of the mark: nothing where it has no phase, and else its phase and
-- the number of committed turns
abbrev pub holding_of : Option Phase → ℕ → Option Holding
holding_of None committed = None
holding_of (Some phase) committed = hold_at committed phase

-- the place of a phase, 0 where it has none
abbrev pub phase_place : Phase → ℕ
phase_place Idle = 0
phase_place Halted = 0
phase_place (Scan j) = j
phase_place (Ready j) = j
phase_place (Seated j filled) = j
phase_place (Raised j) = j

-- the turns and places that a view speaks of are those of the round
pub record IsInRange (d : Dictatorship) (v : View) : Type 0 where
  pub claimed : (k j : ℕ) (looked met : Bool) → v.claim ≡ claim_at k j looked met
      → k < turn_count d
  pub passed : (k j : ℕ) (looked met : Bool) → v.claim ≡ claim_at k j looked met
      → j ≤ length (list_at d k)
  pub met : (k j : ℕ) (looked : Bool) → v.claim ≡ claim_at k j looked true
      → j < length (list_at d k)
  pub committed : (c : ℕ) (phase : Phase) → v.hold ≡ hold_at c phase → c ≤ turn_count d
  pub scanned : (c j : ℕ) → v.hold ≡ hold_at c (Scan j) → c < turn_count d
  pub scanned_place : (c j : ℕ) → v.hold ≡ hold_at c (Scan j) → j ≤ length (list_at d c)
  pub ready : (c j : ℕ) → v.hold ≡ hold_at c (Ready j) → c < turn_count d
  pub ready_place : (c j : ℕ) → v.hold ≡ hold_at c (Ready j) → j < length (list_at d c)
  pub seated : (c j : ℕ) (full : Bool) → v.hold ≡ hold_at c (Seated j full) → c < turn_count d
  pub seated_place : (c j : ℕ) (full : Bool) → v.hold ≡ hold_at c (Seated j full)
      → j < length (list_at d c)
  pub raised : (c j : ℕ) → v.hold ≡ hold_at c (Raised j) → c < turn_count d
  pub raised_place : (c j : ℕ) → v.hold ≡ hold_at c (Raised j) → j < length (list_at d c)
