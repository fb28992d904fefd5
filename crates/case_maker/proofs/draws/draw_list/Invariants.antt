use Rattle.std.proofs.Common.{◌≡◌, ◌+◌, ◌%◌, map}
use Rattle.std.specs.List.{range_with_len}
use Rattle.case_maker.specs.Draws.{without_repeats}
use Rattle.case_maker.specs.Words.{generator_after, words_of}
use Rattle.case_maker.proofs.draws.draw_list.Given as goal

-- the entries so far, and one word for their number before them
abbrev pub invariant-loop-draw : goal.invariant-loop-draw
invariant-loop-draw l = record {
  list : l.list.items ≡ without_repeats
      (map (λ n. words_of l.fn.words (1 + n) % l.programmes) (range_with_len 0 l._draw));
  taken : l.words ≡ generator_after (1 + l._draw) l.fn.words;
}
