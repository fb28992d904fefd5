use Rattle.gate_workers.proofs.Seats.{over_snoc}
use Rattle.gate_workers.proofs.Seats.{ready_last, shares_moved}
use Rattle.gate_workers.proofs.tests.one_thread.falling_posts.end_all.Goals as goal

pub ends-requires : goal.ends-requires
ends-requires g c =
    record { ready = (ready_last _ _ _ _ c.in-Some.ensures.items c.loop-me.invariant.left).0 }

pub loop-me-preserved : goal.loop-me-preserved
loop-me-preserved g c =
    let v = c.loop-me.invariant in
    let pushed = (c.in_ok-push.ensures {u = tt}).items in
    record {
      left = (ready_last _ _ _ _ c.in-Some.ensures.items v.left).1;
      over = over_snoc _ _ _ _ pushed v.over c.ends.ensures.over;
      shares = shares_moved _ _ _ _ _ _ _ c.in-Some.ensures.items pushed c.ends.ensures.share
          v.shares;
    }
