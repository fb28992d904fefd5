use Rattle.std.proofs.Common.{◌-◌, true, None, arith}
use Rattle.interleaving_core.proofs.OwnTurns.{placed_at}
use Rattle.interleaving_core.proofs.team.Worker.post.Goals as goal

pub returns-clause-view : goal.returns-clause-view
returns-clause-view c =
    let own = placed_at c.args.self.now.own.items
    (c.len-last.result - 1) c.index_mut.result.now c.args.place
    (omega (arith, c.len-last.ensures)) c.index_mut.ensures.value in
    λ k. record {
      claim = None;
      own = own k;
      done = c.args.self.now.done;
      owes = true;
      hold = c.args.self.now.hold;
    }
