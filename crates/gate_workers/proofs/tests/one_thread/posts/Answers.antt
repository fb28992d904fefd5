use Rattle.std.proofs.Common.{◌≡◌, ◌⊎◌, true, length, inl, inr, arith, rules}
use Rattle.std.proofs.lemmas.Bool.{not-false}
use Rattle.market.specs.Dictatorships.{list_at}
use Rattle.gate_workers.proofs.tests.one_thread.posts.Goals.{else-not-claim-via-then-not-claim+else-left-gt0, else-not-claim-via-else-not-claim}
use Rattle.gate_workers.proofs.tests.one_thread.posts.Goals as goal

pub post-requires-clause-may : goal.post-requires-clause-may
post-requires-clause-may g c =
    let x = c.claimed-left.result.0 in
    let is = c.claimed-left.ensures.claim in
    let places = is.places in
    let d = c.args.me.now.seat.me.0.dict in
    let ends : (x.met ≡ true) ⊎ (x.passed ≡ length (list_at d x.turn)) =
    elim c.else-not-claim.branch [
      | else-not-claim-via-then-not-claim+else-left-gt0 w ↦
          let none = w.if-left-gt0.false in inr (omega arith)
      | else-not-claim-via-else-not-claim w ↦
          let met : x.met ≡ true = search (rules, not-false) in inl met
    ] in
    record {
      turn = x.turn;
      place = x.passed;
      looked = x.looked;
      met = x.met;
      allowed = (is.claim, ends);
    }
