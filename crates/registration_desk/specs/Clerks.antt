-- What each seat of a desk's table knows.
use Rattle.std.specs.Prelude.{ℕ, ◌+◌, ◌-◌, ◌*◌, ◌/◌, List, [], length, Option, None, Some}
use Rattle.placement_file.specs.SeatLists.{SeatRows}

-- a clerk's share, which is how many clerks the seat stands for; how many requests it has left and
-- how many it has served; where it holds the slot, the number of replies at its take; and the
-- placement, the requests and the number of clerks of the desk
pub record ClerkKnows : Type 0 where
  pub share : ℕ
  pub left : ℕ
  pub served : ℕ
  pub holds : Option ℕ
  pub seats : SeatRows
  pub requests : List ℕ
  pub clerks : ℕ

-- what the one seat knows with which a desk is opened: it stands for every clerk
abbrev pub first_clerk : SeatRows → List ℕ → ℕ → ClerkKnows
first_clerk seats requests clerks =
    record {
      share = clerks;
      left = length requests;
      served = 0;
      holds = None;
      seats = seats;
      requests = requests;
      clerks = clerks;
    }

-- what a seat knows that was joined away: it stands for nobody
abbrev pub spent_clerk : ClerkKnows
spent_clerk = first_clerk [] [] 0

-- how many of so many requests the clerk with this number has to serve
abbrev pub part_of : ℕ → ℕ → ℕ → ℕ
part_of requests clerks number = (number + 1) * requests / clerks - number * requests / clerks

-- the part of the next clerk that a seat at the opening stands for
abbrev pub next_part : ClerkKnows → ℕ
next_part x = part_of (length x.requests) x.clerks (x.clerks - x.share)

-- a split: the seat keeps one share, and the part of that clerk
abbrev pub kept_part : ClerkKnows → ClerkKnows
kept_part x = record x { share = 1; left = next_part x }

-- a split: the new seat has the other shares and the other requests
abbrev pub new_part : ClerkKnows → ClerkKnows
new_part x = record x { share = x.share - 1; left = x.left - next_part x; served = 0 }

-- a join: the share and the numbers of the other seat are added
abbrev pub joined : ClerkKnows → ClerkKnows → ClerkKnows
joined x y =
    record x { share = x.share + y.share; left = x.left + y.left; served = x.served + y.served }

-- a take at this number of replies
abbrev pub holding : ClerkKnows → ℕ → ClerkKnows
holding x number = record x { holds = Some number }

-- a release: one request fewer is left, and one more is served
abbrev pub released : ClerkKnows → ClerkKnows
released x = record x { left = x.left - 1; served = x.served + 1; holds = None }
