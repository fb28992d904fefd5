use Rattle.std.proofs.Common.{refl}
use Rattle.interleaving_core.specs.Events.{Releases}
use Rattle.interleaving_core.proofs.Machines.{allowed, answers_refused}
use Rattle.interleaving_core.proofs.MachineEvents.{frees_mark}
use Rattle.interleaving_core.proofs.state.CoreState.release.Goals as goal

pub invariant_of-self : goal.invariant_of-self
invariant_of-self c =
    let x = allowed c.self.inside _ _ _ _
    (Releases c.in_ok-committed.committed c.in_ok-committed.ensures.0) c.self.invariant
    c.self.view_is c.requires c.index.ensures c.index_mut.ensures.value
    c.in_ok-committed.ensures.1 in
    (frees_mark c.self.inside _ _ _ refl _ c.in_ok-committed.ensures.0 x refl).kept

pub returns : goal.returns
returns c =
    let x = allowed c.self.inside _ _ _ _
    (Releases c.in_ok-committed.committed c.in_ok-committed.ensures.0) c.self.invariant
    c.self.view_is c.requires c.index.ensures c.index_mut.ensures.value
    c.in_ok-committed.ensures.1 in
    (frees_mark c.self.inside _ _ _ refl _ c.in_ok-committed.ensures.0 x refl).step _ c.self.view_is

pub returns-in_err-committed : goal.returns-in_err-committed
returns-in_err-committed c =
    answers_refused c.self.inside _ _ _ _ _ c.from_residual.ensures.0 c.self.view_is c.requires
    c.index.ensures c.in_err-committed.ensures
