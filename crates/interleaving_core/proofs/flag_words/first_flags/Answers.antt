use Rattle.std.proofs.Common.{[], ◌∷◌, ◌++◌, sym, ◌∙◌, arith}
use Rattle.std.proofs.lemmas.List.FromFn.{map-range_with_len_more}
use Rattle.interleaving_core.specs.Flags.{first_flag_word}
use Rattle.interleaving_core.proofs.flag_words.first_flags.Goals as goal

pub loop-group-preserved : goal.loop-group-preserved
loop-group-preserved c =
    let v = c.loop-group.invariant in
    let pushed = c.push_reserved.ensures in
    let long = pushed.len in
    let before = v.len in
    let room = v.room in
    let same = pushed.capacity in
    record {
      items =
          pushed.items
          ∙ ((λ k. v.items k ++ c.first_flag_word.ensures k ∷ [])
          ∙ sym (map-range_with_len_more (first_flag_word c.args.dict.now) 0 c.loop-group.group
          c.loop-group.group (omega arith)));
      len = omega arith;
      room = omega arith;
    }
