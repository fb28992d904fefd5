use Rattle.std.proofs.Common.{◌≡◌, true, arith, rules}
use Rattle.std.proofs.lemmas.Bool.{not-false}
use Rattle.gate_workers.proofs.Seats.{claim_is}
use Rattle.gate_workers.proofs.tests.one_thread.reads.Goals as goal

pub read_entry-requires-clause-may : goal.read_entry-requires-clause-may
read_entry-requires-clause-may g c =
    let x = c.claimed-left.result.0 in
    let is = c.claimed-left.ensures.claim in
    let looked : x.looked ≡ true = search (rules, not-false) in
    let claim = claim_is _ _ _ _ _ is looked c.if-claim.false in
    let places = is.places in
    record { turn = x.turn; place = x.passed; allowed = (claim, omega arith) }
