use Rattle.std.proofs.Common.{◌≡◌, ◌+◌, ◌++◌, map, vec_len, vec_capacity}
use Rattle.std.specs.List.{range_with_len}
use Rattle.interleaving_core.specs.Flags.{first_flag_word}
use Rattle.word_rule.proofs.opening.push_first_flags.Given as goal

abbrev pub invariant-loop-group : goal.invariant-loop-group
invariant-loop-group l = record {
  items : l.words.items
      ≡ l.fn.words.items ++ map (first_flag_word l.dict) (range_with_len 0 l.group);
  len : vec_len l.words ≡ vec_len l.fn.words + l.group;
  capacity : vec_capacity l.words ≡ vec_capacity l.fn.words;
}
