use Rattle.std.proofs.Common.{◌≡◌}
use Rattle.case_maker.specs.Drawn.{HasDrawn}
use Rattle.case_maker.specs.MadeMarkets.{words_before}
use Rattle.case_maker.specs.Words.{generator_after, words_of}
use Rattle.case_maker.proofs.candidates.draw_candidates.Given as goal

-- the candidates so far
abbrev pub invariant-loop-candidate : goal.invariant-loop-candidate
invariant-loop-candidate l = record {
  drawn : HasDrawn l.sizes (words_of l.fn.words) l.candidate l.lists.items l.keys.items;
  taken : l.words
      ≡ generator_after (words_before l.sizes (words_of l.fn.words) l.candidate) l.fn.words;
}
