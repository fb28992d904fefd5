-- What the machine keeps in memory: the view of each worker, and room for its own turns.
use Rattle.std.specs.Prelude.{◌≡◌, ℕ, ◌<◌, ◌≤◌, List, length, map, replicate, slice_get, Some, vec_capacity}
use Rattle.market.specs.Dictatorships.{Dictatorship, IsValidDictatorship}
use Rattle.interleaving_core.specs.declared.limits.TheConstants.{MAX_WORKERS}
use Rattle.interleaving_core.specs.declared.parts.Claiming.{Claiming}
use Rattle.interleaving_core.specs.declared.parts.Phase.TheVariants.{Scan}
use Rattle.interleaving_core.specs.declared.parts.Holding.{Holding}
use Rattle.interleaving_core.specs.declared.team.Worker.{Worker}
use Rattle.interleaving_core.specs.declared.state.CoreState.TheInside.{Inside}
use Rattle.interleaving_core.specs.Core.{View, Machine, fresh_view, turn_count}
use Rattle.interleaving_core.specs.Sound.{IsSound}

-- the view of a worker
abbrev pub view_of : Worker → View
view_of w = record {
  claim = w.claim;
  own = w.own.items;
  done = w.done;
  owes = w.owes;
  hold = w.hold;
}

-- the dictatorship is valid, and a turn that the worker claims or weighs is one of its turns
pub record IsWithin (d : Dictatorship) (v : View) : Type 0 where
  pub valid : IsValidDictatorship d
  pub claimed : (x : Claiming) → v.claim ≡ Some x → x.turn < turn_count d
  pub weighed : (h : Holding) (j : ℕ) → v.hold ≡ Some h → h.phase ≡ Scan j
      → h.committed < turn_count d

-- the core state of a machine, with its dictatorship
abbrev pub machine_of : Inside → Machine
machine_of s =
    record {
      dict = s.dict;
      core =
          record {
            claim_number = s.claim_number;
            mark_held = s.mark_held;
            mark_number = s.mark_number;
            seats = s.seats.items;
            cells = s.cells.items;
            flags = s.flags.items;
            views = map view_of s.workers.items;
          };
    }

-- the machine is sound, and each worker has room for every turn
pub record IsKept (s : Inside) : Type 0 where
  pub valid : IsValidDictatorship s.dict
  pub sound : IsSound s.dict (machine_of s).core
  pub few : length s.workers.items ≤ MAX_WORKERS
  pub room : (i : ℕ) (w : Worker) → slice_get s.workers.items i ≡ Some w
      → turn_count s.dict ≤ vec_capacity w.own

-- so many workers at the opening, each with room for every turn
pub record IsTeam (count turns : ℕ) (workers : List Worker) : Type 0 where
  pub views : map view_of workers ≡ replicate count fresh_view
  pub room : (i : ℕ) (w : Worker) → slice_get workers i ≡ Some w → turns ≤ vec_capacity w.own
