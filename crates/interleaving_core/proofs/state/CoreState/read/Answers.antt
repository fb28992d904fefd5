use Rattle.std.proofs.Common.{true, false, refl, arith}
use Rattle.interleaving_core.specs.Events.{Reads}
use Rattle.interleaving_core.proofs.Machines.{allowed, answers_refused, within, list_short}
use Rattle.interleaving_core.proofs.MachineEvents.{reads_entry}
use Rattle.interleaving_core.proofs.state.CoreState.read.Goals as goal

pub has_seat-open-requires-clause-turn : goal.has_seat-open-requires-clause-turn
has_seat-open-requires-clause-turn c =
    (within c.self.inside _ _ _ c.self.invariant c.self.view_is c.requires c.index.ensures).claimed
    record {
      turn = c.in_ok-claim.claim.turn;
      passed = c.in_ok-claim.claim.passed;
      looked = true;
      met = false;
    } c.in_ok-claim.ensures.0

pub invariant_of-self : goal.invariant_of-self
invariant_of-self c =
    let x = allowed c.self.inside _ _ _ _
    (Reads c.in_ok-claim.claim.turn c.in_ok-claim.claim.passed) c.self.invariant c.self.view_is
    c.requires c.index.ensures c.index_mut-me.ensures.value c.in_ok-claim.ensures in
    (reads_entry c.self.inside _ _ _ refl _ _ true c.has_seat-open.result c.deref.result.now x
    c.if-open.true c.has_seat-open.ensures c.deref.ensures.value refl).kept

pub returns-then-open : goal.returns-then-open
returns-then-open c =
    let x = allowed c.self.inside _ _ _ _
    (Reads c.in_ok-claim.claim.turn c.in_ok-claim.claim.passed) c.self.invariant c.self.view_is
    c.requires c.index.ensures c.index_mut-me.ensures.value c.in_ok-claim.ensures in
    (reads_entry c.self.inside _ _ _ refl _ _ true c.has_seat-open.result c.deref.result.now x
    c.if-open.true c.has_seat-open.ensures c.deref.ensures.value refl).step _ c.self.view_is

pub overflow_add-me : goal.overflow_add-me
overflow_add-me c =
    let inside =
    (within c.self.inside _ _ _ c.self.invariant c.self.view_is c.requires
    c.index.ensures).claimed record {
      turn = c.in_ok-claim.claim.turn;
      passed = c.in_ok-claim.claim.passed;
      looked = true;
      met = false;
    } c.in_ok-claim.ensures.0 in
    let short = list_short c.self.inside.dict c.in_ok-claim.claim.turn c.self.invariant.valid inside
    in
    let passed = c.in_ok-claim.ensures.1 in
    omega arith

pub invariant_of-self-2 : goal.invariant_of-self-2
invariant_of-self-2 c =
    let x = allowed c.self.inside _ _ _ _
    (Reads c.in_ok-claim.claim.turn c.in_ok-claim.claim.passed) c.self.invariant c.self.view_is
    c.requires c.index.ensures c.index_mut-me.ensures.value c.in_ok-claim.ensures in
    (reads_entry c.self.inside _ _ _ refl _ _ false c.has_seat-open.result c.deref.result.now x
    c.if-open.false c.has_seat-open.ensures c.deref.ensures.value refl).kept

pub returns : goal.returns
returns c =
    let x = allowed c.self.inside _ _ _ _
    (Reads c.in_ok-claim.claim.turn c.in_ok-claim.claim.passed) c.self.invariant c.self.view_is
    c.requires c.index.ensures c.index_mut-me.ensures.value c.in_ok-claim.ensures in
    (reads_entry c.self.inside _ _ _ refl _ _ false c.has_seat-open.result c.deref.result.now x
    c.if-open.false c.has_seat-open.ensures c.deref.ensures.value refl).step _ c.self.view_is

pub returns-in_err-claim : goal.returns-in_err-claim
returns-in_err-claim c =
    answers_refused c.self.inside _ _ _ _ _ c.from_residual.ensures.0 c.self.view_is c.requires
    c.index.ensures c.in_err-claim.ensures
