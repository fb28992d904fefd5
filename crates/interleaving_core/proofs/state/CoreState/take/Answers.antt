use Rattle.std.proofs.Common.{true, false, refl, sym}
use Rattle.interleaving_core.specs.Events.{Takes}
use Rattle.interleaving_core.proofs.Machines.{allowed, answers_refused}
use Rattle.interleaving_core.proofs.MachineEvents.{tries_mark}
use Rattle.interleaving_core.proofs.state.CoreState.take.Goals as goal

pub invariant_of-self : goal.invariant_of-self
invariant_of-self c =
    let x = allowed c.self.inside _ _ _ _
    (Takes) c.self.invariant c.self.view_is c.requires c.index.ensures
    c.index_mut-me.ensures.value (c.in_ok-may_take.ensures c.self.inside.dict) in
    (tries_mark c.self.inside _ _ _ refl true x (sym c.if-held.true) refl).kept

pub returns-then-held : goal.returns-then-held
returns-then-held c =
    let x = allowed c.self.inside _ _ _ _
    (Takes) c.self.invariant c.self.view_is c.requires c.index.ensures
    c.index_mut-me.ensures.value (c.in_ok-may_take.ensures c.self.inside.dict) in
    (tries_mark c.self.inside _ _ _ refl true x (sym c.if-held.true) refl).step _ c.self.view_is

pub invariant_of-self-2 : goal.invariant_of-self-2
invariant_of-self-2 c =
    let x = allowed c.self.inside _ _ _ _
    (Takes) c.self.invariant c.self.view_is c.requires c.index.ensures
    c.index_mut-me.ensures.value (c.in_ok-may_take.ensures c.self.inside.dict) in
    (tries_mark c.self.inside _ _ _ refl false x (sym c.if-held.false) refl).kept

pub returns : goal.returns
returns c =
    let x = allowed c.self.inside _ _ _ _
    (Takes) c.self.invariant c.self.view_is c.requires c.index.ensures
    c.index_mut-me.ensures.value (c.in_ok-may_take.ensures c.self.inside.dict) in
    (tries_mark c.self.inside _ _ _ refl false x (sym c.if-held.false) refl).step _ c.self.view_is

pub returns-in_err-may_take : goal.returns-in_err-may_take
returns-in_err-may_take c =
    answers_refused c.self.inside _ _ _ _ _ c.from_residual.ensures.0 c.self.view_is c.requires
    c.index.ensures (c.in_err-may_take.ensures c.self.inside.dict)
