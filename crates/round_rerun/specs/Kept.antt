-- What the rounds keep: the choices by candidate and by turn, and whose choices have changed.
use Rattle.std.specs.Prelude.{◌≡◌, ℕ, ◌<◌, List, [], false, length, filter, if◌then◌else◌, nat_lt, slice_get, slice_index, slice_index_or}
use Rattle.market.specs.Problems.{Problem, list_of, order_of}
use Rattle.market.specs.Mechanism.{is_offered}
use Rattle.market.specs.Choices.{held_in_table}
use Rattle.truncation.specs.Touches.{is_marked}
use Rattle.round_rerun.specs.declared.kept.Kept.{Kept}
use Rattle.round_rerun.specs.declared.kept.TheConstants.{NO_CHOICE}

-- the list of a candidate's turn in a type where nothing is cut
unfoldable pub whole_turn_list : Problem → ℕ → ℕ → List ℕ
whole_turn_list m t i = filter (is_offered m t i) (list_of m i)

-- the byte in which a choice among so many entries is kept: its place, or one that no list has
abbrev pub choice_byte : ℕ → ℕ → ℕ
choice_byte entries place = if nat_lt place entries then place else NO_CHOICE

-- what is kept of turn k of a type
abbrev pub byte_at : List (List ℕ) → ℕ → ℕ → ℕ
byte_at chosen t k = slice_index (slice_index_or chosen t []) k

-- what is kept of each turn is the place of its candidate's choice in the turn's list, or past it
-- where there is none
pub record IsKept (m : Problem) (kept : Kept) : Type 0 where
  pub types : length kept.table ≡ m.types
  pub rows : length kept.chosen.items ≡ m.types
  pub turns : (t : ℕ) → t < m.types
      → length (slice_index_or kept.chosen.items t []) ≡ length (order_of m t)
  pub each : (t k : ℕ) → t < m.types → k < length (order_of m t)
      → held_in_table kept.table t (slice_index (order_of m t) k)
      ≡ slice_get (whole_turn_list m t (slice_index (order_of m t) k))
      (byte_at kept.chosen.items t k)
  pub marks : length kept.changed.items ≡ length m.lists

-- who is not marked afterwards was not marked before either, and has the same choices
abbrev pub KeepsUnmarked : Kept → Kept → Type 0
KeepsUnmarked old new =
    (i : ℕ) → is_marked new.changed.items i ≡ false
    → (is_marked old.changed.items i ≡ false)
    × ((t : ℕ) → held_in_table new.table t i ≡ held_in_table old.table t i)
