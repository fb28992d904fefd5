-- The one rule of a desk's table.
use Rattle.std.specs.Prelude.{◌≡◌, ◌⊎◌, ℕ, ◌+◌, ◌/◌, ◌%◌, ◌≤◌, List, length, slice_index, Option, None, Some}
use Rattle.std.specs.List.{sum_by}
use Rattle.place_base.specs.declared.limits.TheConstants.{MOST_REQUESTS}
use mathlib.Core.Option.{some}
use lib.ListN.{get_elem?}
use Rattle.atomic_table.specs.Table.{State}
use Rattle.placement_file.specs.SeatLists.{SeatRows}
use Rattle.registration_desk.specs.States.{DeskValue}
use Rattle.registration_desk.specs.Clerks.{ClerkKnows, first_clerk, spent_clerk}
use Rattle.registration_desk.specs.declared.rule.DeskKey.{DeskKey}

-- a table's words, its slots that are at home, and the views of its seats
abbrev pub DeskTable : Type 0
DeskTable = State (Option DeskValue) ClerkKnows

-- the numbers of a view that are added up
abbrev pub share_of : ClerkKnows → ℕ
share_of x = x.share

abbrev pub left_of : ClerkKnows → ℕ
left_of x = x.left

abbrev pub served_of : ClerkKnows → ℕ
served_of x = x.served

abbrev pub some_bit : Option ℕ → ℕ
some_bit None = 0
some_bit (Some number) = 1

-- 1 where the seat holds the slot
abbrev pub hold_bit : ClerkKnows → ℕ
hold_bit x = some_bit x.holds

-- the number of replies that the word shows
abbrev pub served_number : List ℕ → ℕ
served_number words = slice_index words 0 / 2

-- 1 where the word shows that the slot is held
abbrev pub held_bit : List ℕ → ℕ
held_bit words = slice_index words 0 % 2

-- a state of this placement and these requests, with so many replies
pub record HasReplies (seats : SeatRows) (requests : List ℕ) (number : ℕ) (state : DeskValue)
    : Type 0 where
  pub same_seats : state.seats ≡ seats
  pub same_requests : state.requests ≡ requests
  pub count : length state.history ≡ number

-- the view of a seat that is not spent: it is one of this desk; and where it holds the slot it has
-- the number in the word and a request left
pub record IsClerk (key : DeskKey) (number : ℕ) (x : ClerkKnows) : Type 0 where
  pub some : 1 ≤ x.share
  pub same_seats : x.seats ≡ key.desk.value.seats
  pub same_requests : x.requests ≡ key.desk.value.requests
  pub same_clerks : x.clerks ≡ key.clerks
  pub held : (n : ℕ) → x.holds ≡ Some n → (n ≡ number) × (1 ≤ x.left)

-- the slot is at home, and its state has so many replies
pub record IsHome (key : DeskKey) (number : ℕ)
    (homes : List (mathlib.Core.Option.Option (Option DeskValue))) : Type 0 where
  pub state : DeskValue
  pub there : get_elem? homes 0 ≡ some (some (Some state))
  pub fits : HasReplies key.desk.value.seats key.desk.value.requests number state

-- the rule
pub record IsOrderly (key : DeskKey) (s : DeskTable) : Type 0 where
  pub few : length key.desk.value.requests ≤ MOST_REQUESTS
  pub wide : length s.words ≡ 1
  -- each view is one of this desk's, or spent
  pub each : (i : ℕ) (x : ClerkKnows) → get_elem? s.views i ≡ some x
      → (x ≡ spent_clerk) ⊎ IsClerk key (served_number s.words) x
  -- the shares add up to the clerks, the numbers served to the number in the word, and those served
  -- and left to the requests
  pub shares : sum_by share_of s.views ≡ key.clerks
  pub served : sum_by served_of s.views ≡ served_number s.words
  pub all : sum_by served_of s.views + sum_by left_of s.views ≡ length key.desk.value.requests
  -- one view holds where the word is odd, and none where it is even
  pub holders : sum_by hold_bit s.views ≡ held_bit s.words
  -- where the word is even the slot is at home
  pub home : held_bit s.words ≡ 0 → IsHome key (served_number s.words) s.homes

-- what the first seat of a desk knows
abbrev pub first_clerk_of : DeskKey → ClerkKnows
first_clerk_of key = first_clerk key.desk.value.seats key.desk.value.requests key.clerks
