use Rattle.std.proofs.Common.{◌≡◌, map}
use Rattle.std.specs.List.{range_with_len}
use Rattle.case_maker.specs.MadeMarkets.{drawn_programme}
use Rattle.case_maker.specs.Words.{generator_after, words_of}
use Rattle.case_maker.proofs.programmes.draw_programmes.Given as goal

-- the programmes so far
abbrev pub invariant-loop-index : goal.invariant-loop-index
invariant-loop-index l = record {
  made : l.made.items ≡ map (λ index. drawn_programme l.sizes (words_of l.fn.words index) index)
      (range_with_len 0 l.index);
  taken : l.words ≡ generator_after l.index l.fn.words;
}
