use Rattle.std.proofs.Common.{true, false, refl, arith}
use Rattle.interleaving_core.specs.declared.parts.Phase.TheVariants.{Scan}
use Rattle.interleaving_core.specs.Events.{Weighs}
use Rattle.interleaving_core.proofs.Machines.{allowed, answers_refused, within, list_short}
use Rattle.interleaving_core.proofs.MachineEvents.{weighs_entry}
use Rattle.interleaving_core.proofs.state.CoreState.weigh.Goals as goal

pub has_seat-open-requires-clause-turn : goal.has_seat-open-requires-clause-turn
has_seat-open-requires-clause-turn c =
    (within c.self.inside _ _ _ c.self.invariant c.self.view_is c.requires c.index.ensures).weighed
    record {
      committed = c.in_ok-committed.committed;
      phase = Scan c.in_ok-committed.place;
    } c.in_ok-committed.place c.in_ok-committed.ensures.0 refl

pub invariant_of-self : goal.invariant_of-self
invariant_of-self c =
    let x = allowed c.self.inside _ _ _ _
    (Weighs c.in_ok-committed.committed c.in_ok-committed.place) c.self.invariant c.self.view_is
    c.requires c.index.ensures c.index_mut-me.ensures.value c.in_ok-committed.ensures in
    (weighs_entry c.self.inside _ _ _ refl _ _ true c.has_seat-open.result c.deref.result.now x
    c.if-open.true c.has_seat-open.ensures c.deref.ensures.value refl).kept

pub returns-then-open : goal.returns-then-open
returns-then-open c =
    let x = allowed c.self.inside _ _ _ _
    (Weighs c.in_ok-committed.committed c.in_ok-committed.place) c.self.invariant c.self.view_is
    c.requires c.index.ensures c.index_mut-me.ensures.value c.in_ok-committed.ensures in
    (weighs_entry c.self.inside _ _ _ refl _ _ true c.has_seat-open.result c.deref.result.now x
    c.if-open.true c.has_seat-open.ensures c.deref.ensures.value refl).step _ c.self.view_is

pub overflow_add-me : goal.overflow_add-me
overflow_add-me c =
    let inside =
    (within c.self.inside _ _ _ c.self.invariant c.self.view_is c.requires
    c.index.ensures).weighed record {
      committed = c.in_ok-committed.committed;
      phase = Scan c.in_ok-committed.place;
    } c.in_ok-committed.place c.in_ok-committed.ensures.0 refl in
    let short = list_short c.self.inside.dict c.in_ok-committed.committed c.self.invariant.valid
    inside in
    let place = c.in_ok-committed.ensures.1 in
    omega arith

pub invariant_of-self-2 : goal.invariant_of-self-2
invariant_of-self-2 c =
    let x = allowed c.self.inside _ _ _ _
    (Weighs c.in_ok-committed.committed c.in_ok-committed.place) c.self.invariant c.self.view_is
    c.requires c.index.ensures c.index_mut-me.ensures.value c.in_ok-committed.ensures in
    (weighs_entry c.self.inside _ _ _ refl _ _ false c.has_seat-open.result c.deref.result.now x
    c.if-open.false c.has_seat-open.ensures c.deref.ensures.value refl).kept

pub returns : goal.returns
returns c =
    let x = allowed c.self.inside _ _ _ _
    (Weighs c.in_ok-committed.committed c.in_ok-committed.place) c.self.invariant c.self.view_is
    c.requires c.index.ensures c.index_mut-me.ensures.value c.in_ok-committed.ensures in
    (weighs_entry c.self.inside _ _ _ refl _ _ false c.has_seat-open.result c.deref.result.now x
    c.if-open.false c.has_seat-open.ensures c.deref.ensures.value refl).step _ c.self.view_is

pub returns-in_err-committed : goal.returns-in_err-committed
returns-in_err-committed c =
    answers_refused c.self.inside _ _ _ _ _ c.from_residual.ensures.0 c.self.view_is c.requires
    c.index.ensures c.in_err-committed.ensures
