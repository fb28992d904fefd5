use Rattle.gate_workers.proofs.Seats.{ready_last, ready_snoc, shares_moved}
use Rattle.gate_workers.proofs.tests.one_thread.falling_posts.act_all.Goals as goal

pub acts-requires-clause-ready : goal.acts-requires-clause-ready
acts-requires-clause-ready g c =
    (ready_last _ _ _ _ c.in-Some.ensures.items c.loop-me.invariant.left).0

pub loop-me-preserved : goal.loop-me-preserved
loop-me-preserved g c =
    let v = c.loop-me.invariant in
    let pushed = (c.in_ok-push.ensures {u = tt}).items in
    record {
      left = (ready_last _ _ _ _ c.in-Some.ensures.items v.left).1;
      moved = ready_snoc _ _ _ _ pushed v.moved c.acts.ensures.ready;
      shares = shares_moved _ _ _ _ _ _ _ c.in-Some.ensures.items pushed c.acts.ensures.share
          v.shares;
    }
