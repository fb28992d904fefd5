-- A round and its seats, as clauses speak of them.
use Rattle.std.specs.Prelude.{◌≡◌, ℕ, true, false, List, [], slice_get, Some, None}
use Rattle.std.specs.List.{sum_by}
use Rattle.atomic_table.specs.Table.{State}
use Rattle.market.specs.Dictatorships.{Dictatorship}
use Rattle.interleaving_core.specs.Core.{View, fresh_view, opening}
use Rattle.word_rule.specs.Views.{SeatKnows, core_views}
use Rattle.word_rule.specs.Rule.{IsLive, IsSoundTable, share_of, sealed_of, table_core}
use Rattle.word_rule.specs.declared.rule.RoundKey.{RoundKey}
use Rattle.word_rule.specs.declared.seat.SharedRound.{SharedRound}
use Rattle.word_rule.specs.declared.seat.WorkSeat.{WorkSeat}

-- what the seat knows
abbrev pub knows : WorkSeat → SeatKnows
knows me = me.seat.me.0

-- what a round was opened with
abbrev pub key_of : SharedRound → RoundKey
key_of round = round.table.shared.key

-- the round's dictatorship
abbrev pub dict_of : SharedRound → Dictatorship
dict_of round = (key_of round).dict.value

-- it is a seat of this round
pub record IsSeatOf (round : SharedRound) (me : WorkSeat) : Type 0 where
  pub table : me.seat.table_id ≡ round.table.shared.table_id
  pub dict : (knows me).dict ≡ dict_of round
  pub workers : (knows me).workers ≡ (key_of round).workers

-- the seat's round, number and share stay
pub record Stays (old new : WorkSeat) : Type 0 where
  pub table : new.seat.table_id ≡ old.seat.table_id
  pub place : new.seat.id ≡ old.seat.id
  pub dict : (knows new).dict ≡ (knows old).dict
  pub workers : (knows new).workers ≡ (knows old).workers
  pub number : (knows new).number ≡ (knows old).number
  pub share : (knows new).share ≡ (knows old).share

-- the seat of the worker with this number at the opening
pub record IsNew (round : SharedRound) (worker : ℕ) (me : WorkSeat) : Type 0 where
  pub of_round : IsSeatOf round me
  pub fresh : (knows me).core ≡ fresh_view
  pub number : (knows me).number ≡ worker
  pub share : (knows me).share ≡ 1
  pub tries : (knows me).tries ≡ 0
  pub missed : (knows me).missed ≡ false
  pub took : (knows me).took ≡ 0
  pub released : (knows me).released ≡ 0
  pub sealed : (knows me).sealed ≡ 0
  pub flags : (knows me).flags ≡ []

-- seats at the opening, numbered from 0
abbrev pub AreNew : SharedRound → List WorkSeat → Type 0
AreNew round seats = (k : ℕ) (me : WorkSeat) → slice_get seats k ≡ Some me → IsNew round k me

-- it is a seat of this round that is done, has no claim and does not hold the mark
pub record IsOver (round : SharedRound) (me : WorkSeat) : Type 0 where
  pub of_round : IsSeatOf round me
  pub done : (knows me).core.done ≡ true
  pub claim : (knows me).core.claim ≡ None
  pub hold : (knows me).core.hold ≡ None

-- each of these seats is over
abbrev pub AreOver : SharedRound → List WorkSeat → Type 0
AreOver round seats = (k : ℕ) (me : WorkSeat) → slice_get seats k ≡ Some me → IsOver round me

-- how many workers these seats stand for
abbrev pub shares_of : List WorkSeat → ℕ
shares_of seats = sum_by (λ me. share_of (knows me)) seats

-- how many turns these seats have committed
abbrev pub sealed_in : List WorkSeat → ℕ
sealed_in seats = sum_by (λ me. sealed_of (knows me)) seats

-- whatever the table is while a seat knows this, no view of the core claims or holds
abbrev pub IsAlone : RoundKey → SeatKnows → Type 0
IsAlone key x = (s : State ℕ SeatKnows) (i : ℕ) → IsSoundTable key s → IsLive s.views i x
    → (j : ℕ) (v : View) → slice_get (core_views s.views) j ≡ Some v
    → (v.claim ≡ None) × (v.hold ≡ None)

-- whatever the table is while every view is still that of the opening, it shows the core's opening
-- state
abbrev pub ShowsOpening : RoundKey → Type 0
ShowsOpening key = (s : State ℕ SeatKnows) → IsSoundTable key s
    → ((i : ℕ) (x : SeatKnows) → IsLive s.views i x → x.core ≡ fresh_view)
    → table_core key s ≡ opening key.dict.value key.workers
