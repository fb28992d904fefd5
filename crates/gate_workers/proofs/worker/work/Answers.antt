use Rattle.std.proofs.Common.{ap, ◌∙◌, arith}
use Rattle.interleaving_core.specs.Core.{turn_count}
use Rattle.gate_workers.proofs.Turns.{stays_on, one_turn, has_posted}
use Rattle.gate_workers.proofs.worker.work.Goals as goal

pub pass-requires-in-Some-after_bounds : goal.pass-requires-in-Some-after_bounds
pass-requires-in-Some-after_bounds g c κs within =
    has_posted _ _ _ _ _ _ c.in-Some.ensures.event c.read_list.ensures.read c.post.ensures.event

pub loop-turn-preserved : goal.loop-turn-preserved
loop-turn-preserved g c =
    let v = c.loop-turn.invariant in
    let tried = c.try_mark-held.ensures.tried in
    let one = one_turn _ _ _ _ _ _ _ (c.in-Some.ensures.stays, c.in-Some.ensures.event)
    (c.read_list.ensures.stays, c.read_list.ensures.read)
    (c.post.ensures.stays, c.post.ensures.event) (c.try_mark-held.ensures.stays, tried) in
    let own = one.own in
    let tries = one.tries in
    let before = v.tries in
    record {
      ready = record {
        of_round = record {
          table = one.stays.table ∙ v.ready.of_round.table;
          dict = one.stays.dict ∙ v.ready.of_round.dict;
          workers = one.stays.workers ∙ v.ready.of_round.workers;
        };
        may = (tried.claim, tried.hold, one.done ∙ v.ready.may.2, tried.owes);
      };
      stays = stays_on v.stays one.stays;
      tries = omega arith;
    }

pub loop-turn-smaller : goal.loop-turn-smaller
loop-turn-smaller g c =
    let one = one_turn _ _ _ _ _ _ _ (c.in-Some.ensures.stays, c.in-Some.ensures.event)
    (c.read_list.ensures.stays, c.read_list.ensures.read)
    (c.post.ensures.stays, c.post.ensures.event)
    (c.try_mark-held.ensures.stays, c.try_mark-held.ensures.tried) in
    let turns = ap (λ d. turn_count d) one.stays.dict in
    let own = one.own in
    let room = one.room in
    omega arith
