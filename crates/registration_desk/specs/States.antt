-- What the desk of one thread keeps.
use Rattle.std.specs.Prelude.{◌≡◌, ℕ, zero, suc, ◌+◌, ◌≤◌, List, ◌∷◌, ◌++◌, [], length, nat_eq, nat_lt, slice_index, Some}
use Rattle.std.specs.List.{count_by, position}
use Rattle.place_base.specs.declared.limits.TheConstants.{MOST_REQUESTS}
use Rattle.registration_desk.specs.declared.reply.Reply.{Reply}
use Rattle.registration_desk.specs.declared.reply.Reply.TheVariants.{Registered, Already}
use Rattle.placement_file.specs.SeatLists.{SeatRows, candidates_of}
use Rattle.registration_desk.specs.Replies.{registrations, WasRegistered, IsUnregistered, IsHistory}

-- a desk as clauses see it: the placement, the requests, and the replies so far
pub record DeskValue : Type 0 where
  pub seats : SeatRows
  pub requests : List ℕ
  pub history : List Reply

-- the desk of these candidates and requests before its first reply
abbrev pub IsFresh : SeatRows → List ℕ → DeskValue → Type 0
IsFresh seats requests desk = desk ≡ record { seats = seats; requests = requests; history = [] }

-- the desk with one more reply
abbrev pub replied : DeskValue → Reply → DeskValue
replied desk reply =
    record { seats = desk.seats; requests = desk.requests; history = desk.history ++ reply ∷ [] }

-- a number kept for a candidate is that of its registration, and 0 stands for none
abbrev pub NumberFits : List ℕ → List Reply → ℕ → ℕ → Type 0
NumberFits requests history candidate zero = IsUnregistered requests history candidate
NumberFits requests history candidate (suc number) =
    WasRegistered requests history candidate (suc number)

-- what a desk keeps: its history is one of the desk of one thread, the number at each candidate's
-- index agrees with it, and the total counts its registrations, which are as many as the numbers
pub record IsDesk (desk : DeskValue) (numbers : List ℕ) (total : ℕ) : Type 0 where
  pub few : length desk.requests ≤ MOST_REQUESTS
  pub within : length desk.history ≤ length desk.requests
  pub history : IsHistory desk.seats desk.requests desk.history
  pub wide : length numbers ≡ length desk.seats
  pub agree : (candidate index : ℕ)
      → position (nat_eq candidate) (candidates_of desk.seats) ≡ Some index
      → NumberFits desk.requests desk.history candidate (slice_index numbers index)
  pub counted : total ≡ registrations desk.history
  pub numbered : count_by (nat_lt 0) numbers ≡ total

-- the number of a placed candidate is looked up: where there is none it becomes the next one
abbrev pub Numbered : ℕ → ℕ → Reply → ℕ → ℕ → Type 0
Numbered zero total reply number' total' = (reply ≡ Registered (total + 1)) × (number' ≡ total + 1)
    × (total' ≡ total + 1)
Numbered (suc number) total reply number' total' = (reply ≡ Already (suc number))
    × (number' ≡ suc number) × (total' ≡ total)
