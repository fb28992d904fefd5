use Rattle.std.proofs.Common.{◌≡◌, ◌≢◌, ℕ, ◌%◌, ◌<◌, false, true}
use Rattle.std.specs.Prelude.{slice_index, slice_index_or}
use Rattle.rank_lists.specs.declared.keys.TheConstants.{INDEXES}
use Rattle.rank_lists.proofs.clean.are_distinct.Given as goal

-- the candidates so far are marked and distinct
abbrev pub invariant-loop-key : goal.invariant-loop-key
invariant-loop-key l = record {
  marked : (k : ℕ) → k < l.key-index
      → slice_index_or l.seen.items (slice_index l.keys k % INDEXES) false ≡ true;
  distinct : (i j : ℕ) → i < j → j < l.key-index
      → slice_index l.keys i % INDEXES ≢ slice_index l.keys j % INDEXES;
}
