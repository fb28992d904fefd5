use Rattle.std.proofs.Common.{◌≡◌, ℕ, ◌<◌, false}
use Rattle.std.specs.Prelude.{slice_index}
use Rattle.market.specs.Counting.{is_programme}
use Rattle.market.specs.Problems.{kind_of}
use Rattle.market.specs.Choices.{held_in_table}
use Rattle.market.proofs.tentative.Tentative.best_place.Given as goal

-- no entry before this one is the candidate's choice
abbrev pub invariant-loop-place : goal.invariant-loop-place
invariant-loop-place l = (k : ℕ) → k < l.place
    → is_programme (slice_index l.list k)
    (held_in_table l.self (kind_of l.market (slice_index l.list k)) l.candidate) ≡ false
