use Rattle.std.proofs.Common.{◌≡◌, ℕ, ◌<◌, [], length}
use Rattle.std.specs.Prelude.{slice_index_or}
use Rattle.rank_lists.proofs.turns.no_ranks.Given as goal

-- so many types without ranks
abbrev pub invariant-loop : goal.invariant-loop
invariant-loop l = record {
  count : length l.given.items ≡ l.counter;
  empty : (kind : ℕ) → kind < l.counter → slice_index_or l.given.items kind [] ≡ [];
}
