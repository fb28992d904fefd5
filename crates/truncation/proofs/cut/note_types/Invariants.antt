use Rattle.std.proofs.Common.{◌≡◌, ℕ, ◌<◌, ◌≤◌, length, None}
use Rattle.std.specs.Prelude.{slice_index_or}
use Rattle.market.specs.declared.limits.TheConstants.{MAX_TYPES}
use Rattle.market.specs.Problems.{list_of, turn_of}
use Rattle.market.specs.Choices.{held_in_table}
use Rattle.market.specs.Reruns.{is_beyond, noted}
use Rattle.truncation.proofs.cut.note_types.Given as goal

abbrev pub invariant-loop-kind : goal.invariant-loop-kind
invariant-loop-kind l = record {
  several : l.touched.several ≡ l.fn.touched.several;
  types : length l.touched.first ≡ MAX_TYPES;
  done : (t : ℕ) → t < l.kind → slice_index_or l.touched.first t None
      ≡ noted (is_beyond (list_of l.market l.candidate) l.cut
      (held_in_table l.tentative t l.candidate)) (slice_index_or l.fn.touched.first t None)
      (turn_of l.market t l.candidate);
  open' : (t : ℕ) → l.kind ≤ t
      → slice_index_or l.touched.first t None ≡ slice_index_or l.fn.touched.first t None;
}
