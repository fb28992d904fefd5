use Rattle.std.proofs.Common.{◌≡◌, ℕ, ◌<◌, ◌≤◌, true}
use Rattle.interleaving_core.specs.Flags.{flag_group}
use Rattle.interleaving_core.specs.Core.{entry}
use Rattle.interleaving_core.specs.Events.{is_raised_among}
use Rattle.interleaving_core.proofs.flag_words.past_flags.Given as goal

abbrev pub invariant-loop-place : goal.invariant-loop-place
invariant-loop-place l = record {
  raised : (n : ℕ) → l.claim.passed ≤ n → n < l.place
      → is_raised_among (flag_group (entry l.dict l.claim.turn l.claim.passed)) l.word
      (entry l.dict l.claim.turn n) ≡ true;
}
