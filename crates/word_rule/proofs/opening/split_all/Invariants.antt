use Rattle.std.proofs.Common.{◌≡◌, ◌+◌, ◌-◌, ◌≤◌, vec_len, vec_capacity, length, []}
use Rattle.word_rule.specs.Rounds.{AreNew, key_of}
use Rattle.word_rule.proofs.Seats.{part}
use Rattle.word_rule.proofs.opening.split_all.Given as goal

abbrev pub invariant-loop-number : goal.invariant-loop-number
invariant-loop-number l = record {
  table : l.rest.table_id ≡ l.round.table.shared.table_id;
  bare : l.rest.me.1 ≡ [];
  rest : l.rest.me.0 ≡ part (key_of l.round) (l.number - 1) (l.workers + 1 - l.number);
  new : AreNew l.round l.seats.items;
  count : length l.seats.items + 1 ≡ l.number;
  len : vec_len l.seats + 1 ≡ l.number;
  room : l.workers ≤ vec_capacity l.seats;
}
