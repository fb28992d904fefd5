use Rattle.std.proofs.Common.{ℕ, List, sym, subst, arith}
use Rattle.market.specs.Dictatorships.{IsValidDictatorship, dictatorship}
use Rattle.gate_workers.proofs.ManyTurns.{seven_programmes_valid, many_turns_valid}
use Rattle.gate_workers.proofs.tests.one_thread.falling_posts.many_turns.Goals as goal

pub from_parts-requires : goal.from_parts-requires
from_parts-requires c =
    let lists = c.loop-turn.lists.items in
    let v = c.loop-turn.invariant in
    let count = v.count in
    subst (λ (z : List ℕ × List ℕ). IsValidDictatorship (dictatorship z.0 z.1 lists))
    (λ k. (sym c.in_ok-quota.ensures.items k, sym c.in_ok-fill.ensures.items k))
    (many_turns_valid _ _ lists seven_programmes_valid (omega arith) v.small)
