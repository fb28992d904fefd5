-- What the first candidates have drawn.
use Rattle.std.specs.Prelude.{◌≡◌, ℕ, ◌<◌, ◌≤◌, List, [], ◌++◌, length, slice_index_or}
use Rattle.std.specs.List.{cons_option}
use Rattle.case_maker.specs.Words.{Words}
use Rattle.case_maker.specs.Draws.{Key, word_key}
use Rattle.case_maker.specs.MadeMarkets.{made_lists, made_keys}
use Rattle.case_maker.specs.declared.sizes.Sizes.{Sizes}

-- the lists and the keys of the first so many candidates
pub record HasDrawn (sizes : Sizes) (words : Words) (count : ℕ) (lists : List (List ℕ))
    (keys : List (List Key)) : Type 0 where
  pub lists_are : lists ≡ made_lists sizes words count
  pub types_are : length keys ≡ sizes.types
  pub keys_are : (kind : ℕ) → kind < sizes.types
      → slice_index_or keys kind [] ≡ made_keys sizes words count kind

-- the first so many types have gained what their words give the candidate, and the others nothing
pub record HasGained (words : Words) (candidate : ℕ) (old new : List (List Key)) (count : ℕ)
    : Type 0 where
  pub types : length new ≡ length old
  pub gained : (kind : ℕ) → kind < count → slice_index_or new kind []
      ≡ slice_index_or old kind [] ++ cons_option (word_key (words kind) candidate) []
  pub others : (kind : ℕ) → count ≤ kind → slice_index_or new kind [] ≡ slice_index_or old kind []
