-- What the words of a round that is over show.
use Rattle.std.specs.Prelude.{◌≡◌, ℕ, ◌<◌, ◌≤◌, List, length, slice_index}
use Rattle.market.specs.Dictatorships.{Dictatorship, IsValidDictatorship, choice}
use Rattle.interleaving_core.specs.declared.parts.Cell.TheVariants.{Committed}
use Rattle.interleaving_core.specs.Core.{turn_count}
use Rattle.word_rule.specs.Layout.{cell_word, cell_of}

-- the words of a round that is over, as clauses see them: the round's dictatorship, and how many
-- of its turns are committed
pub record RoundEnd : Type 0 where
  pub dict : Dictatorship
  pub committed : ℕ

-- the first turns are committed, so many of them: behind the seat counts of so many programmes,
-- their words show cells that are committed at their choices
pub record AreCommitted (d : Dictatorship) (words : List ℕ) (programmes count : ℕ) : Type 0 where
  pub valid : IsValidDictatorship d
  pub within : count ≤ turn_count d
  pub wide : cell_word programmes count ≤ length words
  pub choices : (k : ℕ) → k < count
      → cell_of (slice_index words (cell_word programmes k)) ≡ Committed (choice d k)
