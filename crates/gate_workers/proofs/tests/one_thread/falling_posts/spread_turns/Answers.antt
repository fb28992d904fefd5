use Rattle.std.proofs.Common.{◌≡◌, ℕ, List, [], length, replicate, refl, sym, ap, subst, ◌∙◌, arith}
use Rattle.std.proofs.Math.ListN.{length-replicate}
use Rattle.std.proofs.lemmas.Grind.{common_steps}
use Rattle.word_rule.proofs.OnlyProgrammes.{only_valid}
use Rattle.gate_workers.proofs.ManyTurns.{IsSmall, AreSmall, small_three, small_snoc, count_more, many_turns_valid}
use Rattle.gate_workers.proofs.tests.one_thread.falling_posts.spread_turns.Goals as goal

pub from_parts-requires : goal.from_parts-requires
from_parts-requires c =
    let lists = c.loop-turn.lists.items in
    let v = c.loop-turn.invariant in
    let count = v.count in
    let quota : c.in_ok-quota.quota.items ≡ replicate 130 1 = grind (arith, common_steps) in
    let fill : c.in_ok-fill.fill.items ≡ replicate 130 0 = grind (arith, common_steps) in
    let long : length c.in_ok-quota.quota.items ≡ 130 =
    ap (λ (l : List ℕ). length l) quota ∙ length-replicate {A = ℕ} 130 1 in
    many_turns_valid _ _ lists
    (only_valid 130 c.in_ok-quota.quota.items c.in_ok-fill.fill.items [] (omega arith) quota fill
    refl)
    (omega arith)
    (subst (λ (n : ℕ). AreSmall n lists) (sym long) v.small)

pub loop-turn-preserved : goal.loop-turn-preserved
loop-turn-preserved c =
    let v = c.loop-turn.invariant in
    let count = v.count in
    let pushed = (c.in_ok-push.ensures {u = tt}).items in
    let list = c.in_ok-from_slice.ensures {u = tt} in
    let long = count_more _ _ _ pushed in
    record {
      count = omega arith;
      small = small_snoc 130 _ _ _ pushed v.small
          (subst (IsSmall 130) (sym list)
          (small_three 130 _ _ _ (omega arith) (omega arith) (omega arith)));
    }
