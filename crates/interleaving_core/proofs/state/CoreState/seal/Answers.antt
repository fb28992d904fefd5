use Rattle.std.proofs.Common.{refl, arith}
use Rattle.interleaving_core.specs.Events.{Seals}
use Rattle.interleaving_core.proofs.Machines.{allowed, answers_refused, sealed_within}
use Rattle.interleaving_core.proofs.MachineEvents.{seals_turn}
use Rattle.interleaving_core.proofs.state.CoreState.seal.Goals as goal

pub index_mut-requires : goal.index_mut-requires
index_mut-requires c =
    let x = allowed c.self.inside _ _ _ _
    (Seals c.in_ok-turn.turn c.in_ok-turn.place c.in_ok-turn.ensures.0) c.self.invariant
    c.self.view_is c.requires c.index.ensures c.index.ensures c.in_ok-turn.ensures.1 in
    let inside =
    sealed_within c.self.inside _ _ _ _ c.in_ok-turn.ensures.0 c.self.invariant x.there x.ok in
    let cells = c.self.invariant.sound.cells.each_turn in
    omega arith

pub overflow_add-turn : goal.overflow_add-turn
overflow_add-turn c =
    let x = allowed c.self.inside _ _ _ _
    (Seals c.in_ok-turn.turn c.in_ok-turn.place c.in_ok-turn.ensures.0) c.self.invariant
    c.self.view_is c.requires c.index.ensures c.index.ensures c.in_ok-turn.ensures.1 in
    let inside =
    sealed_within c.self.inside _ _ _ _ c.in_ok-turn.ensures.0 c.self.invariant x.there x.ok in
    let few = c.self.invariant.valid.turns in
    omega arith

pub invariant_of-self : goal.invariant_of-self
invariant_of-self c =
    let x = allowed c.self.inside _ _ _ _
    (Seals c.in_ok-turn.turn c.in_ok-turn.place c.in_ok-turn.ensures.0) c.self.invariant
    c.self.view_is c.requires c.index.ensures c.index_mut-2.ensures.value c.in_ok-turn.ensures.1
    in
    (seals_turn c.self.inside _ _ _ refl _ _ c.in_ok-turn.ensures.0 x refl).kept

pub returns : goal.returns
returns c =
    let x = allowed c.self.inside _ _ _ _
    (Seals c.in_ok-turn.turn c.in_ok-turn.place c.in_ok-turn.ensures.0) c.self.invariant
    c.self.view_is c.requires c.index.ensures c.index_mut-2.ensures.value c.in_ok-turn.ensures.1
    in
    (seals_turn c.self.inside _ _ _ refl _ _ c.in_ok-turn.ensures.0 x refl).step _ c.self.view_is

pub returns-in_err-turn : goal.returns-in_err-turn
returns-in_err-turn c =
    answers_refused c.self.inside _ _ _ _ _ c.from_residual.ensures.0 c.self.view_is c.requires
    c.index.ensures c.in_err-turn.ensures
