use Rattle.std.proofs.Common.{arith}
use Rattle.interleaving_core.specs.Events.{Posts}
use Rattle.interleaving_core.proofs.Machines.{allowed, answers_refused, within, has_own}
use Rattle.interleaving_core.proofs.MachineEvents.{posts_turn}
use Rattle.interleaving_core.proofs.state.CoreState.post.Goals as goal

pub index_mut-requires : goal.index_mut-requires
index_mut-requires c =
    let inside =
    (within c.self.inside _ _ _ c.self.invariant c.self.view_is c.requires
    c.index.ensures).claimed c.in_ok-claim.claim c.in_ok-claim.ensures.0 in
    let cells = c.self.invariant.sound.cells.each_turn in
    omega arith

pub post-requires : goal.post-requires
post-requires c =
    let x = allowed c.self.inside _ _ _ _
    (Posts c.in_ok-claim.claim.turn c.in_ok-claim.claim.passed c.in_ok-claim.claim.looked
    c.in_ok-claim.claim.met)
    c.self.invariant c.self.view_is c.requires c.index.ensures c.index_mut-2.ensures.value
    c.in_ok-claim.ensures in
    let own = has_own c.self.inside _ _ c.in_ok-claim.claim c.self.invariant x.there x.ok.0 in
    let long = c.index_mut-2.result.now.own.ok.0 in
    omega arith

pub invariant_of-self : goal.invariant_of-self
invariant_of-self c =
    let x = allowed c.self.inside _ _ _ _
    (Posts c.in_ok-claim.claim.turn c.in_ok-claim.claim.passed c.in_ok-claim.claim.looked
    c.in_ok-claim.claim.met)
    c.self.invariant c.self.view_is c.requires c.index.ensures c.index_mut-2.ensures.value
    c.in_ok-claim.ensures in
    (posts_turn c.self.inside _ _ _ c.post.ensures.room _ _ _ _ x c.post.ensures.view).kept

pub returns : goal.returns
returns c =
    let x = allowed c.self.inside _ _ _ _
    (Posts c.in_ok-claim.claim.turn c.in_ok-claim.claim.passed c.in_ok-claim.claim.looked
    c.in_ok-claim.claim.met)
    c.self.invariant c.self.view_is c.requires c.index.ensures c.index_mut-2.ensures.value
    c.in_ok-claim.ensures in
    (posts_turn c.self.inside _ _ _ c.post.ensures.room _ _ _ _ x c.post.ensures.view).step _
    c.self.view_is

pub returns-in_err-claim : goal.returns-in_err-claim
returns-in_err-claim c =
    answers_refused c.self.inside _ _ _ _ _ c.from_residual.ensures.0 c.self.view_is c.requires
    c.index.ensures c.in_err-claim.ensures
