-- A core state: what the shared words hold and what each worker knows.
use Rattle.std.specs.Prelude.{ℕ, Bool, true, false, List, [], length, replicate, nat_lt, slice_index, slice_index_or, Option, Some, None}
use Rattle.std.specs.List.{filter_map}
use Rattle.market.specs.Dictatorships.{Dictatorship, list_at}
use Rattle.interleaving_core.specs.declared.parts.Cell.{Cell}
use Rattle.interleaving_core.specs.declared.parts.Cell.TheVariants.{Empty, Committed}
use Rattle.interleaving_core.specs.declared.parts.Claiming.{Claiming}
use Rattle.interleaving_core.specs.declared.parts.OwnTurn.{OwnTurn}
use Rattle.interleaving_core.specs.declared.parts.Phase.{Phase}
use Rattle.interleaving_core.specs.declared.parts.Holding.{Holding}
use Rattle.interleaving_core.specs.Flags.{flag_group, is_raised_in, first_flags}

-- what one worker knows: the turn it claims; the turns it has drawn, in order; whether it is
-- done, since no turn was left to draw; whether it owes a try on the mark; and what it knows as
-- holder of the mark
pub record View : Type 0 where
  pub claim : Option Claiming
  pub own : List OwnTurn
  pub done : Bool
  pub owes : Bool
  pub hold : Option Holding

-- the claim number, which is how many draws were made; the mark, held or free, and its number;
-- the seat count of each programme; the cell of each turn; the words of flags, of which each
-- programme has one, raised or lowered; and the view of each worker
pub record Core : Type 0 where
  pub claim_number : ℕ
  pub mark_held : Bool
  pub mark_number : ℕ
  pub seats : List ℕ
  pub cells : List Cell
  pub flags : List ℕ
  pub views : List View

-- a core state with the dictatorship that it runs
pub record Machine : Type 0 where
  pub dict : Dictatorship
  pub core : Core

-- the view of a worker at the opening
abbrev pub fresh_view : View
fresh_view = record { claim = None; own = []; done = false; owes = false; hold = None }

-- the opening state: nothing is drawn, posted or committed, the mark is free, and the flags of
-- exactly the full programmes are raised
abbrev pub opening : Dictatorship → ℕ → Core
opening d workers =
    record {
      claim_number = 0;
      mark_held = false;
      mark_number = 0;
      seats = d.fill;
      cells = replicate (length d.lists) Empty;
      flags = first_flags d;
      views = replicate workers fresh_view;
    }

-- the number of turns
abbrev pub turn_count : Dictatorship → ℕ
turn_count d = length d.lists

-- the programme at a place of a turn's list
abbrev pub entry : Dictatorship → ℕ → ℕ → ℕ
entry d k j = slice_index (list_at d k) j

-- the quota of a programme
abbrev pub quota_of : Dictatorship → ℕ → ℕ
quota_of d p = slice_index d.quota p

-- the seat count of a programme
abbrev pub seats_of : Core → ℕ → ℕ
seats_of c p = slice_index c.seats p

-- whether a programme has a seat left; it is full where it has none
abbrev pub is_open : Dictatorship → Core → ℕ → Bool
is_open d c p = nat_lt (seats_of c p) (quota_of d p)

-- whether the flag of a programme is raised
abbrev pub is_raised : Core → ℕ → Bool
is_raised c p = is_raised_in (slice_index c.flags (flag_group p)) p

-- the cell of a turn
abbrev pub cell_at : Core → ℕ → Cell
cell_at c k = slice_index_or c.cells k Empty

-- whether a cell is committed
abbrev pub is_committed : Cell → Bool
is_committed (Committed _) = true
is_committed _ = false

-- a claim of turn k with j entries passed
abbrev pub claim_at : ℕ → ℕ → Bool → Bool → Option Claiming
claim_at k j looked met = Some record { turn = k; passed = j; looked = looked; met = met }

-- the mark held, with c turns committed
abbrev pub hold_at : ℕ → Phase → Option Holding
hold_at c phase = Some record { committed = c; phase = phase }

-- the place that a cell is committed at
abbrev pub committed_place : Cell → Option ℕ
committed_place (Committed j) = Some j
committed_place _ = None

-- the choices committed, in the order of turns
abbrev pub committed_choices : Core → List ℕ
committed_choices c = filter_map committed_place c.cells
