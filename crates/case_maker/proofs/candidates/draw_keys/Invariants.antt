use Rattle.std.proofs.Common.{◌≡◌}
use Rattle.case_maker.specs.Drawn.{HasGained}
use Rattle.case_maker.specs.Words.{generator_after, words_of}
use Rattle.case_maker.proofs.candidates.draw_keys.Given as goal

-- the types so far
abbrev pub invariant-loop-kind : goal.invariant-loop-kind
invariant-loop-kind l = record {
  taken : l.words ≡ generator_after l.kind l.fn.words;
  gained : HasGained (words_of l.fn.words) l.candidate l.fn.keys l.keys l.kind;
}
