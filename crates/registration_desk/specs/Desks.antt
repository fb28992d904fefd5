-- A desk and its clerks, as clauses speak of them.
use Rattle.std.specs.Prelude.{◌≡◌, ℕ, List, length, slice_get, Some}
use Rattle.std.specs.List.{sum_by}
use Rattle.registration_desk.specs.States.{DeskValue}
use Rattle.registration_desk.specs.Clerks.{ClerkKnows, part_of}
use Rattle.registration_desk.specs.declared.rule.DeskKey.{DeskKey}
use Rattle.registration_desk.specs.declared.desk.Desk.{Desk}
use Rattle.registration_desk.specs.declared.desk.Clerk.{Clerk}

-- what the clerk's seat knows
abbrev pub knows : Clerk → ClerkKnows
knows clerk = clerk.seat.me.0

-- what a desk was opened with
abbrev pub key_of : Desk → DeskKey
key_of desk = desk.table.shared.key

-- the desk at its opening
abbrev pub at_opening : Desk → DeskValue
at_opening desk = (key_of desk).desk.value

-- it is a clerk of this desk
abbrev pub IsClerkOf : Desk → Clerk → Type 0
IsClerkOf desk clerk = clerk.seat.table_id ≡ desk.table.shared.table_id

-- each of them is
abbrev pub AreClerksOf : Desk → List Clerk → Type 0
AreClerksOf desk clerks =
    (k : ℕ) (clerk : Clerk) → slice_get clerks k ≡ Some clerk → IsClerkOf desk clerk

-- the clerk's desk and share stay
pub record Stays (old new : Clerk) : Type 0 where
  pub table : new.seat.table_id ≡ old.seat.table_id
  pub share : (knows new).share ≡ (knows old).share

-- the clerk with this number at the opening: it has its part of the requests to serve
pub record IsNew (desk : Desk) (number : ℕ) (clerk : Clerk) : Type 0 where
  pub of_desk : IsClerkOf desk clerk
  pub share : (knows clerk).share ≡ 1
  pub left : (knows clerk).left
      ≡ part_of (length (at_opening desk).requests) (key_of desk).clerks number
  pub served : (knows clerk).served ≡ 0

-- the clerks at the opening, numbered from 0
abbrev pub AllNew : Desk → List Clerk → Type 0
AllNew desk clerks = (k : ℕ) (clerk : Clerk) → slice_get clerks k ≡ Some clerk → IsNew desk k clerk

-- how many clerks these stand for, how many requests they served, and how many they have left
abbrev pub shares_of : List Clerk → ℕ
shares_of clerks = sum_by (λ clerk. (knows clerk).share) clerks

abbrev pub served_by : List Clerk → ℕ
served_by clerks = sum_by (λ clerk. (knows clerk).served) clerks

abbrev pub left_by : List Clerk → ℕ
left_by clerks = sum_by (λ clerk. (knows clerk).left) clerks

-- these are all clerks of the desk
pub record AreAllClerksOf (desk : Desk) (clerks : List Clerk) : Type 0 where
  pub each : AreClerksOf desk clerks
  pub all : shares_of clerks ≡ (key_of desk).clerks
