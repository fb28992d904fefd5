-- What each request is answered, by the history before it.
use Rattle.std.specs.Prelude.{◌≡◌, ℕ, ◌+◌, Bool, true, false, List, take, slice_get, None, Some}
use Rattle.std.specs.List.{count_by}
use Rattle.registration_desk.specs.declared.reply.Reply.{Reply}
use Rattle.registration_desk.specs.declared.reply.Reply.TheVariants.{Registered, Already, NotPlaced, Unknown}
use Rattle.placement_file.specs.SeatLists.{SeatRows}
use Rattle.registration_desk.specs.Seats.{seat_of}

-- it is a registration
abbrev pub is_registration : Reply → Bool
is_registration (Registered number) = true
is_registration _ = false

-- it says that the candidate was registered before
abbrev pub is_again : Reply → Bool
is_again (Already number) = true
is_again _ = false

-- it says that the candidate holds none
abbrev pub is_not_placed : Reply → Bool
is_not_placed NotPlaced = true
is_not_placed _ = false

-- it says that the candidate is not in the placement
abbrev pub is_unknown : Reply → Bool
is_unknown Unknown = true
is_unknown _ = false

-- how many registrations a history has
abbrev pub registrations : List Reply → ℕ
registrations history = count_by is_registration history

-- a request of this candidate was answered with a registration under this number
pub record WasRegistered (requests : List ℕ) (history : List Reply) (candidate number : ℕ) : Type 0
  where
    pub place : ℕ
    pub request : slice_get requests place ≡ Some candidate
    pub reply : slice_get history place ≡ Some (Registered number)

-- the candidate was not registered
abbrev pub IsUnregistered : List ℕ → List Reply → ℕ → Type 0
IsUnregistered requests history candidate =
    (number : ℕ) → ¬ (WasRegistered requests history candidate number)

-- the candidate holds a programme
abbrev pub IsPlaced : SeatRows → ℕ → Type 0
IsPlaced seats candidate = (code : ℕ) × (seat_of seats candidate ≡ Some (Some code))

-- what the next request is answered, after this history, where it is one of this candidate
abbrev pub IsReply : SeatRows → List ℕ → List Reply → ℕ → Reply → Type 0
IsReply seats requests history candidate Unknown = seat_of seats candidate ≡ None
IsReply seats requests history candidate NotPlaced = seat_of seats candidate ≡ Some None
IsReply seats requests history candidate (Already number) = IsPlaced seats candidate
    × WasRegistered requests history candidate number
IsReply seats requests history candidate (Registered number) = IsPlaced seats candidate
    × IsUnregistered requests history candidate × (number ≡ registrations history + 1)

-- one reply of a history: it is to the request at its place, after the replies before it
pub record IsReplyAt (seats : SeatRows) (requests : List ℕ) (history : List Reply) (place : ℕ)
    (reply : Reply) : Type 0 where
  pub candidate : ℕ
  pub request : slice_get requests place ≡ Some candidate
  pub fits : IsReply seats requests (take place history) candidate reply

-- each reply of a history is the one that the desk of one thread gives at that point
abbrev pub IsHistory : SeatRows → List ℕ → List Reply → Type 0
IsHistory seats requests history =
    (place : ℕ) (reply : Reply) → slice_get history place ≡ Some reply
    → IsReplyAt seats requests history place reply

-- each candidate is registered at most once
abbrev pub IsOnceEach : List ℕ → List Reply → Type 0
IsOnceEach requests history = (candidate i j k l : ℕ)
    → slice_get requests i ≡ Some candidate → slice_get history i ≡ Some (Registered k)
    → slice_get requests j ≡ Some candidate → slice_get history j ≡ Some (Registered l) → i ≡ j

-- and only where placed
abbrev pub IsOnlyPlaced : SeatRows → List ℕ → List Reply → Type 0
IsOnlyPlaced seats requests history = (candidate number : ℕ)
    → WasRegistered requests history candidate number → IsPlaced seats candidate
