use Rattle.std.proofs.Common.{◌≡◌, ℕ, ◌<◌, false}
use Rattle.std.specs.Prelude.{slice_index, ◌==◌}
use Rattle.truncation.proofs.cut.place_in.Given as goal

-- no entry before this one is the programme
abbrev pub invariant-loop-place : goal.invariant-loop-place
invariant-loop-place l =
    (k : ℕ) → k < l.place → slice_index l.list k == l.programme ≡ false
