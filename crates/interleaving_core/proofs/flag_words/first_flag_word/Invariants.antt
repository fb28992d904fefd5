use Rattle.std.proofs.Common.{◌≡◌}
use Rattle.interleaving_core.specs.Flags.{begins_full_at, word_of}
use Rattle.interleaving_core.proofs.flag_words.first_flag_word.Given as goal

abbrev pub invariant-loop-bit : goal.invariant-loop-bit
invariant-loop-bit l = record { word : l.word ≡ word_of (begins_full_at l.dict l.group) l.bit }
