-- What each seat of a round's table knows.
use Rattle.std.specs.Prelude.{ℕ, zero, suc, ◌+◌, ◌-◌, Bool, true, false, List, [], ◌∷◌, ◌++◌, replicate, None}
use Rattle.atomic_table.specs.Table.{Me}
use Rattle.market.specs.Dictatorships.{Dictatorship}
use Rattle.interleaving_core.specs.Core.{View, fresh_view}

-- a worker's view of the core; the seat's number and its share, which is how many workers it stands
-- for; how many tries on the mark it has made, held or not, and whether its last one found the mark
-- held; the number of its last try that found the mark free, and the number that its last release
-- wrote; how many turns it has committed; the words of flags that it has read, each with the group
-- of programmes whose flags it has; and the round's dictatorship and number of workers
pub record SeatKnows : Type 0 where
  pub core : View
  pub number : ℕ
  pub share : ℕ
  pub tries : ℕ
  pub missed : Bool
  pub took : ℕ
  pub released : ℕ
  pub sealed : ℕ
  pub flags : List (ℕ × ℕ)
  pub dict : Dictatorship
  pub workers : ℕ

-- the view of a worker that is done, once nobody knows its own turns any more
abbrev pub ended_view : View
ended_view = record { claim = None; own = []; done = true; owes = false; hold = None }

-- the view of each other worker that a seat with a larger share stands for
abbrev pub other_view : Bool → View
other_view true = ended_view
other_view false = fresh_view

-- the views of the core that a view with a share gives: itself, and one fewer of the others
abbrev pub shared_views : ℕ → View → List View
shared_views zero v = []
shared_views (suc more) v = v ∷ replicate more (other_view v.done)

-- the views of the core that these seats give
abbrev pub core_views : List SeatKnows → List View
core_views [] = []
core_views (x ∷ xs) = shared_views x.share x.core ++ core_views xs

-- what the one seat knows with which a round's table is made: it stands for every worker
abbrev pub first_seat : Dictatorship → ℕ → SeatKnows
first_seat d workers =
    record {
      core = fresh_view;
      number = 0;
      share = workers;
      tries = 0;
      missed = false;
      took = 0;
      released = 0;
      sealed = 0;
      flags = [];
      dict = d;
      workers = workers;
    }

-- what a seat knows that was joined away: it stands for nobody
abbrev pub spent_seat : SeatKnows
spent_seat = first_seat (record { quota = []; fill = []; lists = [] }) 0

-- a split: the seat keeps one share
abbrev pub kept_part : SeatKnows → SeatKnows
kept_part x = record x { share = 1 }

-- a split: the new seat has the other shares and the next number
abbrev pub new_part : SeatKnows → SeatKnows
new_part x =
    record x {
      core = fresh_view;
      number = x.number + 1;
      share = x.share - 1;
      tries = 0;
      missed = false;
      took = 0;
      released = 0;
      sealed = 0;
      flags = [];
    }

-- a join: the share of the other seat is added, and so are the turns that it has committed
abbrev pub joined : SeatKnows → SeatKnows → SeatKnows
joined x y = record x { share = x.share + y.share; sealed = x.sealed + y.sealed }

-- the seat with another view of the core
abbrev pub with_core : SeatKnows → View → SeatKnows
with_core x v = record x { core = v }

-- a seat as the table knows it: what it knows, and the slots that it holds, of which there are none
abbrev pub SeatMe : Type 0
SeatMe = Me ℕ SeatKnows

-- the seat with another view of the core
abbrev pub me_with : SeatMe → View → SeatMe
me_with m v = (with_core m.0 v, m.1)
