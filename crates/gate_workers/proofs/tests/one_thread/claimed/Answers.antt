use Rattle.std.proofs.Common.{length, ap, arith}
use Rattle.gate_workers.proofs.Seats.{claim_within}
use Rattle.gate_workers.proofs.tests.one_thread.claimed.Goals as goal

pub list-places-requires : goal.list-places-requires
list-places-requires g c =
    let within = claim_within _ _ _ _ c.requires.seat c.in-Some.is in
    omega arith

pub overflow_sub-result : goal.overflow_sub-result
overflow_sub-result g c =
    let within = claim_within _ _ _ _ c.requires.seat c.in-Some.is in
    let list = ap length c.list-places.ensures in
    omega arith

pub returns : goal.returns
returns g c =
    let within = claim_within _ _ _ _ c.requires.seat c.in-Some.is in
    let list = ap length c.list-places.ensures in
    record { claim = record { claim = within.claim; places = omega arith } }
