use Rattle.std.proofs.Common.{refl}
use Rattle.interleaving_core.specs.Events.{Looks}
use Rattle.interleaving_core.proofs.Machines.{allowed, answers_refused}
use Rattle.interleaving_core.proofs.MachineEvents.{finds_post, finds_nothing}
use Rattle.interleaving_core.proofs.state.CoreState.look.Goals as goal

pub invariant_of-self : goal.invariant_of-self
invariant_of-self c =
    let x = allowed c.self.inside _ _ _ _
    (Looks c.in_ok-committed.committed) c.self.invariant c.self.view_is c.requires
    c.index.ensures c.index_mut-me.ensures.value c.in_ok-committed.ensures in
    (finds_post c.self.inside _ _ _ refl _ c.in-Posted.place c.index-cell.result.now x
    c.index-cell.ensures c.in-Posted.is refl).kept

pub returns-in-Posted : goal.returns-in-Posted
returns-in-Posted c =
    let x = allowed c.self.inside _ _ _ _
    (Looks c.in_ok-committed.committed) c.self.invariant c.self.view_is c.requires
    c.index.ensures c.index_mut-me.ensures.value c.in_ok-committed.ensures in
    (finds_post c.self.inside _ _ _ refl _ c.in-Posted.place c.index-cell.result.now x
    c.index-cell.ensures c.in-Posted.is refl).step _ c.self.view_is

pub invariant_of-self-2 : goal.invariant_of-self-2
invariant_of-self-2 c =
    let x = allowed c.self.inside _ _ _ _
    (Looks c.in_ok-committed.committed) c.self.invariant c.self.view_is c.requires
    c.index.ensures c.index_mut-me.ensures.value c.in_ok-committed.ensures in
    (finds_nothing c.self.inside _ _ _ refl _ c.index-cell.result.now x c.index-cell.ensures
    c.in_default.not-Posted refl).kept

pub returns : goal.returns
returns c =
    let x = allowed c.self.inside _ _ _ _
    (Looks c.in_ok-committed.committed) c.self.invariant c.self.view_is c.requires
    c.index.ensures c.index_mut-me.ensures.value c.in_ok-committed.ensures in
    (finds_nothing c.self.inside _ _ _ refl _ c.index-cell.result.now x c.index-cell.ensures
    c.in_default.not-Posted refl).step _ c.self.view_is

pub returns-in_err-committed : goal.returns-in_err-committed
returns-in_err-committed c =
    answers_refused c.self.inside _ _ _ _ _ c.from_residual.ensures.0 c.self.view_is c.requires
    c.index.ensures c.in_err-committed.ensures
