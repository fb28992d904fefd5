use Rattle.std.proofs.Common.{false, refl, ap, arith}
use Rattle.interleaving_core.specs.Core.{claim_at}
use Rattle.interleaving_core.specs.Events.{Claims}
use Rattle.interleaving_core.specs.Machines.{view_of}
use Rattle.interleaving_core.proofs.Machines.{allowed, answers_refused, claims_small, has_room}
use Rattle.interleaving_core.proofs.MachineEvents.{draws_turn, finds_no_turn}
use Rattle.interleaving_core.proofs.state.CoreState.claim.Goals as goal

pub overflow_add-self : goal.overflow_add-self
overflow_add-self c = let small = claims_small c.self.inside c.self.invariant in omega arith

pub invariant_of-self : goal.invariant_of-self
invariant_of-self c =
    let x = allowed c.self.inside _ _ _ _ Claims c.self.invariant c.self.view_is c.requires
    c.index.ensures c.index_mut-me.ensures.value
    (c.in_ok-may_claim.ensures c.self.inside.dict) in
    (finds_no_turn c.self.inside _ _ _ refl x (omega arith) refl).kept

pub returns-then-turn-turns : goal.returns-then-turn-turns
returns-then-turn-turns c =
    let x = allowed c.self.inside _ _ _ _ Claims c.self.invariant c.self.view_is c.requires
    c.index.ensures c.index_mut-me.ensures.value
    (c.in_ok-may_claim.ensures c.self.inside.dict) in
    (finds_no_turn c.self.inside _ _ _ refl x (omega arith) refl).step _ c.self.view_is

pub push_reserved-requires : goal.push_reserved-requires
push_reserved-requires c =
    let x = allowed c.self.inside _ _ _ _ Claims c.self.invariant c.self.view_is c.requires
    c.index.ensures c.index_mut-me.ensures.value
    (c.in_ok-may_claim.ensures c.self.inside.dict) in
    let room = has_room c.self.inside c.args.worker c.index_mut-me.result.now c.self.invariant
    x.there (omega arith) in
    let long = c.index_mut-me.result.now.own.ok.0 in
    omega arith

pub invariant_of-self-2 : goal.invariant_of-self-2
invariant_of-self-2 c =
    let x = allowed c.self.inside _ _ _ _ Claims c.self.invariant c.self.view_is c.requires
    c.index.ensures c.index_mut-me.ensures.value
    (c.in_ok-may_claim.ensures c.self.inside.dict) in
    let me = view_of c.index_mut-me.result.now in
    (draws_turn c.self.inside _ _ _ c.push_reserved.ensures.capacity x (omega arith)
    (ap (λ own. record me { claim = claim_at c.self.inside.claim_number 0 false false; own = own })
    c.push_reserved.ensures.items)).kept

pub returns : goal.returns
returns c =
    let x = allowed c.self.inside _ _ _ _ Claims c.self.invariant c.self.view_is c.requires
    c.index.ensures c.index_mut-me.ensures.value
    (c.in_ok-may_claim.ensures c.self.inside.dict) in
    let me = view_of c.index_mut-me.result.now in
    (draws_turn c.self.inside _ _ _ c.push_reserved.ensures.capacity x (omega arith)
    (ap (λ own. record me { claim = claim_at c.self.inside.claim_number 0 false false; own = own })
    c.push_reserved.ensures.items)).step _ c.self.view_is

pub returns-in_err-may_claim : goal.returns-in_err-may_claim
returns-in_err-may_claim c =
    answers_refused c.self.inside _ _ _ _ _ c.from_residual.ensures.0 c.self.view_is c.requires
    c.index.ensures (c.in_err-may_claim.ensures c.self.inside.dict)
