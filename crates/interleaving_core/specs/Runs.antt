-- One event after another.
use Rattle.std.specs.Prelude.{◌≡◌, ℕ, List, [], ◌∷◌, slice_get, Some, Result, MatchResult}
use Rattle.market.specs.Dictatorships.{Dictatorship}
use Rattle.interleaving_core.specs.declared.events.CoreEvent.{CoreEvent}
use Rattle.interleaving_core.specs.declared.events.Told.{Told}
use Rattle.interleaving_core.specs.declared.events.NotNow.{NotNow}
use Rattle.interleaving_core.specs.Core.{View, Core, Machine}
use Rattle.interleaving_core.specs.Events.{Action, event_of, IsAllowed, Refuses, after, told_by}

-- the event is allowed to the worker i, leads from c to e, and tells this
pub record IsStep (d : Dictatorship) (c : Core) (i : ℕ) (event : CoreEvent) (told : Told)
    (e : Core) : Type 0 where
  pub view : View
  pub whose : slice_get c.views i ≡ Some view
  pub action : Action
  pub of_event : event_of action ≡ event
  pub allowed : IsAllowed d view action
  pub tells : told ≡ told_by d c action
  pub leads : e ≡ after d c i view action

-- the event is not allowed to the worker i
abbrev pub IsNotNow : Dictatorship → Core → ℕ → CoreEvent → Type 0
IsNotNow d c i event = (v : View) → slice_get c.views i ≡ Some v → Refuses d v event

-- these events, each of a worker and each allowed where it stands, lead from c to e
abbrev pub IsRun : Dictatorship → Core → List (ℕ × CoreEvent) → Core → Type 0
IsRun d c [] e = e ≡ c
IsRun d c (x ∷ xs) e = (told : Told) × (next : Core) × IsStep d c x.0 x.1 told next
    × IsRun d next xs e

-- what a machine answers to an event, and what becomes of it: the event's step where it is allowed,
-- and else nothing changes
abbrev pub Answers : Machine → ℕ → CoreEvent → Machine → Result Told NotNow → Type 0
Answers old i event new result =
    MatchResult result
    (λ told. (new.dict ≡ old.dict) × IsStep old.dict old.core i event told new.core)
    (λ _. (new ≡ old) × IsNotNow old.dict old.core i event)
