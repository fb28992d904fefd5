use Rattle.std.proofs.Common.{◌≡◌, ℕ, ◌+◌, List, [], ◌∷◌, ◌++◌, map, sym, ap, ◌∙◌, zero-add, arith}
use Rattle.std.specs.List.{range_with_len}
use Rattle.std.proofs.lemmas.List.FromFn.{map-range_with_len_more}
use Rattle.market.specs.declared.programme.Prog.{Prog}
use Rattle.case_maker.specs.declared.sizes.Sizes.{Sizes}
use Rattle.case_maker.specs.MadeMarkets.{drawn_programme}
use Rattle.case_maker.specs.Words.{Words, generator_after, words_of}
use Rattle.case_maker.proofs.Taking.{after_none, taken-rest, taken-word}
use Rattle.case_maker.proofs.programmes.draw_programmes.Goals as goal

-- one programme more
programmes-next : (s : Sizes) (words : Words) (index word : ℕ) (p : Prog) (old new : List Prog)
    → old ≡ map (λ i. drawn_programme s (words i) i) (range_with_len 0 index) → word ≡ words index
    → p ≡ drawn_programme s word index → new ≡ old ++ p ∷ []
    → new ≡ map (λ i. drawn_programme s (words i) i) (range_with_len 0 (index + 1))
programmes-next s words index word p old new so_far word_is p_is more =
    let one = λ (i : ℕ). drawn_programme s (words i) i in
    more ∙ ap (λ ps. ps ++ p ∷ []) so_far
    ∙ ap (λ q. map one (range_with_len 0 index) ++ q ∷ [])
    (p_is ∙ ap (λ w. drawn_programme s w index) word_is)
    ∙ sym (map-range_with_len_more one 0 index index (zero-add index))

pub loop-index-init : goal.loop-index-init
loop-index-init c = record {
  made = c.in_ok-made.ensures.items;
  taken = sym (after_none c.args.words.now);
}

pub loop-index-preserved : goal.loop-index-preserved
loop-index-preserved c =
    let start = c.args.words.now in
    let index = c.loop-index.index in
    record {
      made = programmes-next c.args.sizes (words_of start) index c.next_word-word.result
          c.drawn_programme.result c.loop-index.made.items c.push.new.self.items
          c.loop-index.invariant.made
          (taken-word index start c.loop-index.words c.next_word-word.new.self
          c.next_word-word.result c.loop-index.invariant.taken c.next_word-word.ensures)
          c.drawn_programme.ensures c.in_ok-push.ensures.items;
      taken = taken-rest index start c.loop-index.words c.next_word-word.new.self
          c.next_word-word.result c.loop-index.invariant.taken c.next_word-word.ensures;
    }

-- the programmes have come to their end
all_made : (c : goal.After-loop-index) → c.loop-index.index ≡ c.args.sizes.programmes
all_made c = omega arith

pub returns-clause-made : goal.returns-clause-made
returns-clause-made c =
    let one = λ (i : ℕ). drawn_programme c.args.sizes (words_of c.args.words.now i) i in
    c.loop-index.invariant.made ∙ ap (λ n. map one (range_with_len 0 n)) (all_made c)

pub returns-clause-taken : goal.returns-clause-taken
returns-clause-taken c =
    c.loop-index.invariant.taken ∙ ap (λ n. generator_after n c.args.words.now) (all_made c)
