-- What a desk prints once every request is answered, as a function of the placement and the
-- requests.
use Rattle.std.specs.Prelude.{ℕ, ◌+◌, ◌-◌, cond, Bool, true, false, ◌&&◌, List, [], ◌∷◌, ◌++◌, length, codes, decimal, nat_eq, Option, None, Some, is_some}
use Rattle.std.specs.List.{count_by, filter, flat_map, list_any}
use Rattle.record_files.specs.Texts.{row_text}
use Rattle.placement_file.specs.SeatLists.{SeatRows}
use Rattle.registration_desk.specs.Seats.{seat_row_at, seat_of}
use Rattle.registration_desk.specs.declared.reply.Reply.{Reply}
use Rattle.registration_desk.specs.declared.reply.Reply.TheVariants.{Registered, Already, NotPlaced, Unknown}
use Rattle.registration_desk.specs.declared.report.DeskNumbers.{DeskNumbers}
use Rattle.registration_desk.specs.Replies.{is_again, is_not_placed, is_unknown, registrations}

-- a placed candidate whom a request names
abbrev pub is_named : List ℕ → ℕ × Option ℕ → Bool
is_named requests row = is_some row.1 && list_any (nat_eq row.0) requests

-- these candidates, in the order of the placement
abbrev pub registered_rows : SeatRows → List ℕ → SeatRows
registered_rows seats requests = filter (is_named requests) seats

-- the row of a candidate
abbrev pub number_row : ℕ × Option ℕ → List ℕ
number_row row = row_text (decimal row.0 ∷ [])

-- the text: the header, and a row for each of these candidates
abbrev pub registered_text : SeatRows → List ℕ → List ℕ
registered_text seats requests =
    row_text (codes "candidate" ∷ []) ++ flat_map number_row (registered_rows seats requests)

-- what the placement says of a candidate: it holds a programme, it holds none, or nothing
abbrev pub says_placed : Option (Option ℕ) → Bool
says_placed (Some (Some code)) = true
says_placed _ = false

abbrev pub says_without : Option (Option ℕ) → Bool
says_without (Some None) = true
says_without _ = false

abbrev pub says_nothing : Option (Option ℕ) → Bool
says_nothing None = true
says_nothing _ = false

-- how many requests are of placed candidates, of listed candidates who hold none, and of others
abbrev pub placed_requests : SeatRows → List ℕ → ℕ
placed_requests seats requests = count_by (λ c. says_placed (seat_of seats c)) requests

abbrev pub without_requests : SeatRows → List ℕ → ℕ
without_requests seats requests = count_by (λ c. says_without (seat_of seats c)) requests

abbrev pub unknown_requests : SeatRows → List ℕ → ℕ
unknown_requests seats requests = count_by (λ c. says_nothing (seat_of seats c)) requests

-- the numbers of the line
abbrev pub desk_numbers : SeatRows → List ℕ → DeskNumbers
desk_numbers seats requests =
    record {
      registered = length (registered_rows seats requests);
      again = placed_requests seats requests - length (registered_rows seats requests);
      not_placed = without_requests seats requests;
      unknown = unknown_requests seats requests;
    }

-- how many replies of a history are of each kind
abbrev pub replies_of : List Reply → DeskNumbers
replies_of history =
    record {
      registered = registrations history;
      again = count_by is_again history;
      not_placed = count_by is_not_placed history;
      unknown = count_by is_unknown history;
    }

-- no numbers
abbrev pub no_numbers : DeskNumbers
no_numbers = record { registered = 0; again = 0; not_placed = 0; unknown = 0 }

-- the numbers with one more reply
abbrev pub with_reply : DeskNumbers → Reply → DeskNumbers
with_reply n (Registered number) = record n { registered = n.registered + 1 }
with_reply n (Already number) = record n { again = n.again + 1 }
with_reply n NotPlaced = record n { not_placed = n.not_placed + 1 }
with_reply n Unknown = record n { unknown = n.unknown + 1 }

-- the number of the candidate at an index, where it is placed and a request names it
abbrev pub named_at : SeatRows → List ℕ → ℕ → Option ℕ
named_at seats requests index =
    cond (is_named requests (seat_row_at seats index)) (Some (seat_row_at seats index).0) None

-- what a desk has ready before its first byte is written: its text, and the numbers of its line
pub record DeskReport : Type 0 where
  pub text : List ℕ
  pub numbers : DeskNumbers

-- the report on a placement and requests
abbrev pub report_on : SeatRows → List ℕ → DeskReport
report_on seats requests =
    record { text = registered_text seats requests; numbers = desk_numbers seats requests }
