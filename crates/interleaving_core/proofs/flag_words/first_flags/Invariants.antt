use Rattle.std.proofs.Common.{◌≡◌, ◌≤◌, map, vec_len, vec_capacity}
use Rattle.std.specs.List.{range_with_len}
use Rattle.interleaving_core.specs.Flags.{first_flag_word}
use Rattle.interleaving_core.proofs.flag_words.first_flags.Given as goal

abbrev pub invariant-loop-group : goal.invariant-loop-group
invariant-loop-group l = record {
  items : l.words.items ≡ map (first_flag_word l.dict) (range_with_len 0 l.group);
  len : vec_len l.words ≡ l.group;
  room : l.count ≤ vec_capacity l.words;
}
