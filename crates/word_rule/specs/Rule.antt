-- The one rule of a round's table.
use Rattle.std.specs.Prelude.{◌≡◌, ◌≢◌, ◌⊎◌, ℕ, ◌<◌, ◌≤◌, true, false, List, [], length, slice_get, slice_index, Some}
use Rattle.std.specs.List.{sum_by}
use Rattle.atomic_table.specs.Table.{State}
use Rattle.market.specs.Dictatorships.{Dictatorship, IsValidDictatorship}
use Rattle.interleaving_core.specs.declared.limits.TheConstants.{MAX_WORKERS}
use Rattle.interleaving_core.specs.Flags.{flag_group, is_raised_in}
use Rattle.interleaving_core.specs.Core.{View, Core, fresh_view, quota_of}
use Rattle.interleaving_core.specs.Sound.{IsSound}
use Rattle.word_rule.specs.declared.layout.TheConstants.{CLAIM_WORD, MARK_WORD}
use Rattle.word_rule.specs.Layout.{mark_number, core_of, word_count}
use Rattle.word_rule.specs.Views.{SeatKnows, core_views, first_seat}
use Rattle.word_rule.specs.declared.rule.RoundKey.{RoundKey}

-- how many workers a seat stands for
abbrev pub share_of : SeatKnows → ℕ
share_of x = x.share

-- how many turns a seat has committed
abbrev pub sealed_of : SeatKnows → ℕ
sealed_of x = x.sealed

-- the core state of a table
abbrev pub table_core : RoundKey → State ℕ SeatKnows → Core
table_core key s = core_of key.dict.value s.words (core_views s.views)

-- a seat that is not spent is one of this round, and stands for more than one worker only at the
-- opening or once it is done; the mark's number is at least the one that it released last
pub record Belongs (key : RoundKey) (number : ℕ) (x : SeatKnows) : Type 0 where
  pub dict : x.dict ≡ key.dict.value
  pub workers : x.workers ≡ key.workers
  pub wide : 1 < x.share → (x.core ≡ fresh_view) ⊎ (x.core.done ≡ true)
  pub behind : x.released ≤ number

-- a seat of the table that is not spent
pub record IsLive (seats : List SeatKnows) (i : ℕ) (x : SeatKnows) : Type 0 where
  pub there : slice_get seats i ≡ Some x
  pub live : 0 < x.share

-- each flag that was raised in a word that the seat has read is a programme's, which is full
abbrev pub HasReadFull : Dictatorship → List ℕ → SeatKnows → Type 0
HasReadFull d seats x =
    (n : ℕ) (word : ℕ × ℕ) → slice_get x.flags n ≡ Some word → (p : ℕ) → flag_group p ≡ word.0
    → is_raised_in word.1 p ≡ true
    → (p < length d.quota) × (quota_of d p ≤ slice_index seats p)

-- the view of a worker that has drawn no number
abbrev pub HasNotDrawn : View → Type 0
HasNotDrawn v = (v.own ≡ []) × (v.done ≡ false)

-- words and views together are one sound core state of the round's dictatorship
pub record IsSoundTable (key : RoundKey) (s : State ℕ SeatKnows) : Type 0 where
  pub valid : IsValidDictatorship key.dict.value
  pub team : key.workers ≤ MAX_WORKERS
  pub wide : length s.words ≡ word_count key.dict.value
  pub sound : IsSound key.dict.value (table_core key s)
  -- the seats stand for all workers, each is one of this round, and their numbers differ
  pub shares : sum_by share_of s.views ≡ key.workers
  pub each : (i : ℕ) (x : SeatKnows) → IsLive s.views i x
      → Belongs key (mark_number (slice_index s.words MARK_WORD)) x
  pub apart : (i j : ℕ) (x y : SeatKnows) → IsLive s.views i x → IsLive s.views j y → i ≢ j
      → x.number ≢ y.number
  -- a seat that is still to be split has the greatest number
  pub last : (i j : ℕ) (x y : SeatKnows) → IsLive s.views i x → IsLive s.views j y → i ≢ j
      → 1 < x.share → x.core.done ≡ false → y.number < x.number
  -- the seats have committed as many turns as are committed, and one that is spent counts none
  pub sealed : sum_by sealed_of s.views ≡ sound.count
  pub spent : (i : ℕ) (x : SeatKnows) → slice_get s.views i ≡ Some x → x.share ≡ 0 → x.sealed ≡ 0
  -- what a seat has read of flags is so
  pub full : (i : ℕ) (x : SeatKnows) → IsLive s.views i x
      → HasReadFull key.dict.value (table_core key s).seats x
  -- while nobody has drawn a number, the claim number is 0
  pub undrawn : ((i : ℕ) (x : SeatKnows) → IsLive s.views i x → HasNotDrawn x.core)
      → slice_index s.words CLAIM_WORD ≡ 0

-- what the first seat of a round knows
abbrev pub first_seat_of : RoundKey → SeatKnows
first_seat_of key = first_seat key.dict.value key.workers
