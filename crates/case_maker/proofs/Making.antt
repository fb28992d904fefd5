-- The parts that are made, put together, are the market of the seed.
use Rattle.std.proofs.Common.{◌≡◌, ℕ, ◌<◌, ◌≤◌, List, [], length, map, sym, ap, ◌∙◌, arith, subst}
use Rattle.std.specs.Prelude.{slice_index_or}
use Rattle.std.specs.List.{range_with_len}
use Rattle.std.proofs.lemmas.List.{get_or-map, length-map}
use Rattle.std.proofs.lemmas.List.FromFn.{fill_by_all}
use Rattle.std.proofs.lemmas.Simd.{map-map}
use Rattle.market.specs.Problems.{problem}
use Rattle.market.specs.declared.programme.Prog.{Prog}
use Rattle.rand_pcg.specs.Lcg.{Lcg}
use Rattle.case_maker.specs.declared.sizes.Sizes.{Sizes}
use Rattle.case_maker.specs.Draws.{Key}
use Rattle.case_maker.specs.Drawn.{HasDrawn}
use Rattle.case_maker.specs.MadeMarkets.{made_lists, made_order, made_programmes, made_ranks, made_problem}
use Rattle.case_maker.specs.Turns.{turn_order}
use Rattle.case_maker.specs.Words.{Words, generator_after, words_behind, words_of}
use Rattle.case_maker.proofs.Taking.{words_of-after}
use Rattle.case_maker.proofs.Validity.{length-order}

module _ (s : Sizes) (words : Words) (lists : List (List ℕ)) (keys : List (List Key))
    (drawn : HasDrawn s (words_behind s.programmes words) s.candidates lists keys) where
  -- the words of the candidates
  abbrev rest : Words
  rest = words_behind s.programmes words

  order-at : (kind : ℕ) → kind < s.types
      → slice_index_or (map turn_order keys) kind [] ≡ made_order s rest kind
  order-at kind lt =
      let types = drawn.types_are in
      get_or-map turn_order keys kind [] [] (omega arith)
      ∙ ap turn_order (drawn.keys_are kind lt)

  -- a turn order is no longer than there are candidates
  orders-short : (kind : ℕ) → kind < length (map turn_order keys)
      → length (slice_index_or (map turn_order keys) kind []) ≤ s.candidates
  orders-short kind lt =
      let types = drawn.types_are in
      let size = length-map keys turn_order in
      let same = ap (λ xs. length {A = ℕ} xs) (order-at kind (omega arith)) in
      let few = length-order s rest kind in
      omega arith

  orders-made : map turn_order keys ≡ map (made_order s rest) (range_with_len 0 s.types)
  orders-made =
      fill_by_all (made_order s rest) (map turn_order keys) s.types []
      (length-map keys turn_order ∙ drawn.types_are) order-at

  ranks-made : map (λ order. range_with_len 1 (length order)) (map turn_order keys)
      ≡ map (made_ranks s rest) (range_with_len 0 s.types)
  ranks-made =
      ap (map (λ order. range_with_len 1 (length order))) orders-made
      ∙ map-map (λ order. range_with_len 1 (length order)) (made_order s rest)
      (range_with_len 0 s.types)

  -- the parts are those of the words
  parts-made : (programmes : List Prog) (orders ranks : List (List ℕ))
      → programmes ≡ made_programmes s words
      → orders ≡ map turn_order keys
      → ranks ≡ map (λ order. range_with_len 1 (length order)) orders
      → problem s.types programmes lists orders ranks ≡ made_problem s words
  parts-made programmes orders ranks programmes_are orders_are ranks_are =
      let made = made_programmes s words in
      let drawn_lists = made_lists s rest s.candidates in
      let made_orders = map (made_order s rest) (range_with_len 0 s.types) in
      ap (λ ps. problem s.types ps lists orders ranks) programmes_are
      ∙ ap (λ ls. problem s.types made ls orders ranks) drawn.lists_are
      ∙ ap (λ os. problem s.types made drawn_lists os ranks) (orders_are ∙ orders-made)
      ∙ ap (λ rs. problem s.types made drawn_lists made_orders rs)
      (ranks_are ∙ ap (map (λ order. range_with_len 1 (length order))) orders_are ∙ ranks-made)

-- the words of the candidates come behind those of the programmes
module _ (s : Sizes) (start at : Lcg) (lists : List (List ℕ)) (keys : List (List Key))
    (taken : at ≡ generator_after s.programmes start)
    (drawn : HasDrawn s (words_of at) s.candidates lists keys) where
  drawn-behind : HasDrawn s (words_behind s.programmes (words_of start)) s.candidates lists keys
  drawn-behind =
      subst (λ w. HasDrawn s w s.candidates lists keys)
      (ap words_of taken ∙ words_of-after s.programmes start) drawn

  -- the turn orders are no longer than there are candidates
  pub orders-few : (orders : List (List ℕ)) → orders ≡ map turn_order keys → (kind : ℕ)
      → kind < length orders → length (slice_index_or orders kind []) ≤ s.candidates
  orders-few orders orders_are =
      subst (λ os. (kind : ℕ) → kind < length os
      → length {A = ℕ} (slice_index_or os kind []) ≤ s.candidates) (sym orders_are)
      (orders-short s (words_of start) lists keys drawn-behind)

  -- the parts are the market of the generator's words
  pub market-made : (programmes : List Prog) (orders ranks : List (List ℕ))
      → programmes ≡ made_programmes s (words_of start)
      → orders ≡ map turn_order keys
      → ranks ≡ map (λ order. range_with_len 1 (length order)) orders
      → problem s.types programmes lists orders ranks ≡ made_problem s (words_of start)
  market-made = parts-made s (words_of start) lists keys drawn-behind
