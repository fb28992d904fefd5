use Rattle.std.proofs.Common.{◌≡◌, ◌+◌, ◌++◌, replicate, vec_len, vec_capacity}
use Rattle.word_rule.proofs.opening.push_empty_cells.Given as goal

abbrev pub invariant-loop-turn : goal.invariant-loop-turn
invariant-loop-turn l = record {
  items : l.words.items ≡ l.fn.words.items ++ replicate l._turn 0;
  len : vec_len l.words ≡ vec_len l.fn.words + l._turn;
  capacity : vec_capacity l.words ≡ vec_capacity l.fn.words;
}
