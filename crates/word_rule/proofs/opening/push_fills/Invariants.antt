use Rattle.std.proofs.Common.{◌≡◌, ◌+◌, ◌++◌, take, vec_len, vec_capacity}
use Rattle.word_rule.proofs.opening.push_fills.Given as goal

abbrev pub invariant-loop-programme : goal.invariant-loop-programme
invariant-loop-programme l = record {
  items : l.words.items ≡ l.fn.words.items ++ take l.programme l.dict.fill;
  len : vec_len l.words ≡ vec_len l.fn.words + l.programme;
  capacity : vec_capacity l.words ≡ vec_capacity l.fn.words;
}
