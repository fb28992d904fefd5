use Rattle.std.proofs.Common.{ℕ, List, [], ◌∷◌, ◌++◌, map, sym, ap, ◌∙◌, arith, append_assoc}
use Rattle.std.specs.List.{range_with_len}
use Rattle.std.proofs.lemmas.List.FromFn.{map-range_with_len_more}
use Rattle.interleaving_core.specs.Flags.{first_flag_word}
use Rattle.word_rule.proofs.opening.push_first_flags.Goals as goal

pub loop-group-preserved : goal.loop-group-preserved
loop-group-preserved c =
    let v = c.loop-group.invariant in
    let pushed = c.push_reserved.ensures in
    let group = c.loop-group.group in
    let f = first_flag_word c.args.dict.now in
    let long = pushed.len in
    let before = v.len in
    record {
      items =
          pushed.items
          ∙ ((λ k. v.items k ++ c.first_flag_word.ensures k ∷ [])
          ∙ (append_assoc c.args.words.now.items (map f (range_with_len 0 group)) (f group ∷ [])
          ∙ ap (λ (l : List ℕ). c.args.words.now.items ++ l)
          (sym (map-range_with_len_more f 0 group group (omega arith)))));
      len = omega arith;
      capacity = pushed.capacity ∙ v.capacity;
    }
