use Rattle.std.proofs.Common.{◌≡◌, ℕ, ◌+◌, List, [], ◌∷◌, ◌++◌, length, refl, sym, ap, ◌∙◌, arith, add-one, subst, zero-add, drop}
use Rattle.std.specs.Prelude.{slice_index_or}
use Rattle.std.specs.List.{cons_option, filter_map, range_with_len}
use Rattle.std.proofs.lemmas.List.{get_or-replicate, length-replicate, map-id, take_at}
use Rattle.std.proofs.lemmas.List.Elements.{filter_map-append}
use Rattle.std.proofs.lemmas.List.FromFn.{map-range_with_len_more}
use Rattle.rand_pcg.specs.Lcg.{Lcg}
use Rattle.case_maker.specs.declared.sizes.Sizes.{Sizes}
use Rattle.case_maker.specs.Draws.{Key, drawn_key, drawn_list, word_key, list_words, drawn_word_count}
use Rattle.case_maker.specs.Drawn.{HasDrawn, HasGained}
use Rattle.case_maker.specs.MadeMarkets.{made_keys, made_lists, own_words, words_before}
use Rattle.case_maker.specs.Words.{Words, generator_after, words_behind, words_of}
use Rattle.case_maker.proofs.Taking.{after_after, after_none, words_of-after}
use Rattle.case_maker.proofs.candidates.draw_candidates.Goals as goal

range-more : (n : ℕ) → range_with_len 0 (n + 1) ≡ range_with_len 0 n ++ n ∷ []
range-more n =
    sym (map-id (range_with_len 0 (n + 1)))
    ∙ map-range_with_len_more (λ (k : ℕ). k) 0 n n (zero-add n)
    ∙ ap (λ xs. xs ++ n ∷ []) (map-id (range_with_len 0 n))

-- the keys with one candidate more
made_keys-more : (s : Sizes) (words : Words) (n kind : ℕ)
    → made_keys s words (n + 1) kind ≡ made_keys s words n kind
    ++ cons_option (drawn_key s.programmes (own_words s words n) kind n) []
made_keys-more s words n kind =
    let key = λ (i : ℕ). drawn_key s.programmes (own_words s words i) kind i in
    ap (filter_map key) (range-more n) ∙ filter_map-append key (range_with_len 0 n) (n ∷ [])

-- the words that are drawn with one candidate more
words_before-more : (s : Sizes) (words : Words) (n : ℕ) → words_before s words (n + 1)
    ≡ words_before s words n + drawn_word_count s.programmes s.types (own_words s words n)
unfolding words_before
words_before-more s words n = rw add-one refl

words_before-none : (s : Sizes) (words : Words) → words_before s words 0 ≡ 0
unfolding words_before
words_before-none s words = refl

module _ (s : Sizes) (start at : Lcg) (n : ℕ)
    (taken : at ≡ generator_after (words_before s (words_of start) n) start) where
  -- the words that are left are the candidate's own
  own : words_of at ≡ own_words s (words_of start) n
  own = ap words_of taken ∙ words_of-after (words_before s (words_of start) n) start

  -- one candidate more
  drawn-next : (behind : Lcg) (list : List ℕ) (lists lists' : List (List ℕ))
      (keys keys' : List (List Key))
      → HasDrawn s (words_of start) n lists keys
      → list ≡ drawn_list s.programmes (words_of at)
      → behind ≡ generator_after (list_words s.programmes (words_of at)) at
      → lists' ≡ lists ++ list ∷ []
      → HasGained (words_of behind) n keys keys' (length keys)
      → HasDrawn s (words_of start) (n + 1) lists' keys'
  drawn-next behind list lists lists' keys keys' h list_is behind_is more gained =
      let words = words_of start in
      let types = h.types_are in
      let of = λ (i : ℕ). drawn_list s.programmes (own_words s words i) in
      let own_behind : words_of behind
      ≡ words_behind (list_words s.programmes (own_words s words n)) (own_words s words n) =
      ap words_of behind_is ∙ words_of-after (list_words s.programmes (words_of at)) at
      ∙ ap (λ w. words_behind (list_words s.programmes w) w) own in
      record {
        lists_are = more ∙ ap (λ xs. xs ++ list ∷ []) h.lists_are
            ∙ ap (λ x. made_lists s words n ++ x ∷ [])
            (list_is ∙ ap (drawn_list s.programmes) own)
            ∙ sym (map-range_with_len_more of 0 n n (zero-add n));
        types_are = gained.types ∙ types;
        keys_are = λ kind lt.
            gained.gained kind (omega arith)
            ∙ ap (λ xs. xs ++ cons_option (word_key (words_of behind kind) n) [])
            (h.keys_are kind lt)
            ∙ ap (λ (w : Words). made_keys s words n kind ++ cons_option (word_key (w kind) n) [])
            own_behind
            ∙ sym (made_keys-more s words n kind);
      }

  -- and the words that were taken
  taken-next : (behind next : Lcg) (types : ℕ)
      → behind ≡ generator_after (list_words s.programmes (words_of at)) at
      → next ≡ generator_after types behind → types ≡ s.types
      → next ≡ generator_after (words_before s (words_of start) (n + 1)) start
  taken-next behind next types behind_is next_is types_are =
      let words = words_of start in
      let before = words_before s words n in
      let listed = list_words s.programmes (own_words s words n) in
      let sum : (before + listed) + s.types ≡ before + (listed + s.types) = omega arith in
      next_is ∙ ap (λ t. generator_after t behind) types_are
      ∙ ap (generator_after s.types)
      (behind_is ∙ ap (λ w. generator_after (list_words s.programmes w) at) own
      ∙ ap (generator_after listed) taken ∙ after_after listed before start)
      ∙ after_after s.types (before + listed) start
      ∙ ap (λ k. generator_after k start) (sum ∙ sym (words_before-more s words n))

pub loop-candidate-init : goal.loop-candidate-init
loop-candidate-init c =
    let start = c.args.words.now in
    let none = words_before-none c.args.sizes (words_of start) in
    let keys = c.in_ok-keys.ensures in
    record {
      drawn = record {
        lists_are = c.in_ok-lists.ensures.items;
        types_are = ap (λ ks. length {A = List Key} ks) keys
            ∙ length-replicate c.args.sizes.types [];
        keys_are = λ kind lt. ap (λ ks. slice_index_or {A = List Key} ks kind []) keys
            ∙ get_or-replicate c.args.sizes.types kind [] [] lt;
      };
      taken = sym (after_none start) ∙ ap (λ k. generator_after k start) (sym none);
    }

pub loop-candidate-preserved : goal.loop-candidate-preserved
loop-candidate-preserved c =
    let s = c.args.sizes in
    let start = c.args.words.now in
    let n = c.loop-candidate.candidate in
    let old = c.deref_mut.result.now in
    let new = c.draw_keys.new.keys in
    let same : length new ≡ c.loop-candidate.keys.len = omega arith in
    let drawn = subst
    (λ keys. HasDrawn s (words_of start) n c.loop-candidate.lists.items keys)
    (sym c.deref_mut.ensures.value) c.loop-candidate.invariant.drawn in
    record {
      drawn = rw (take_at new
          (drop (length new) c.loop-candidate.keys.items) c.loop-candidate.keys.len same)
          (drawn-next s start c.loop-candidate.words n c.loop-candidate.invariant.taken
          c.draw_list.new.words c.in_ok-list.list c.loop-candidate.lists.items
          c.push.new.self.items old new drawn c.in_ok-list.ensures.list c.in_ok-list.ensures.taken
          c.in_ok-push.ensures.items c.in_ok-draw_keys.ensures.keys);
      taken = taken-next s start c.loop-candidate.words n c.loop-candidate.invariant.taken
          c.draw_list.new.words c.draw_keys.new.words (length old) c.in_ok-list.ensures.taken
          c.in_ok-draw_keys.ensures.taken drawn.types_are;
    }

pub returns : goal.returns
returns c =
    subst
    (λ (n : ℕ). HasDrawn c.args.sizes (words_of c.args.words.now) n
    c.loop-candidate.lists.items c.loop-candidate.keys.items)
    (omega arith) c.loop-candidate.invariant.drawn
