use Rattle.std.proofs.Common.{arith}
use Rattle.gate_workers.proofs.Seats.{claim_is}
use Rattle.gate_workers.proofs.tests.one_thread.finds_flags.Goals as goal

pub read_flags-requires-clause-may : goal.read_flags-requires-clause-may
read_flags-requires-clause-may g c =
    let x = c.claimed-left.result.0 in
    let is = c.claimed-left.ensures.claim in
    let claim = claim_is _ _ _ _ _ is c.if-claim.false c.if-claim-2.false in
    let places = is.places in
    record { turn = x.turn; place = x.passed; allowed = (claim, omega arith) }
