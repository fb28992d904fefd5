use Rattle.std.proofs.Common.{◌≡◌, ◌<◌, ℕ, false}
use Rattle.std.specs.Prelude.{slice_index_or}
use Rattle.rank_lists.specs.declared.part_ranks.PartRanks.{PartRanks}
use Rattle.rank_lists.proofs.clean.are_known.Given as goal

-- the parts so far
abbrev pub invariant-loop-part : goal.invariant-loop-part
invariant-loop-part l = (k : ℕ) (d : PartRanks) → k < l.part-index
    → (slice_index_or l.parts k d).unknown ≡ false
