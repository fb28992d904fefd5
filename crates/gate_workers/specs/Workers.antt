-- What a worker does to its seat.
use Rattle.std.specs.Prelude.{◌≡◌, ℕ, ◌+◌, ◌<◌, ◌≤◌, true, false, List, [], ◌∷◌, ◌++◌, length, slice_get, Option, Some, None, IsSome}
use Rattle.market.specs.Dictatorships.{list_at}
use Rattle.interleaving_core.specs.declared.parts.Claiming.{Claiming}
use Rattle.interleaving_core.specs.declared.parts.OwnTurn.{OwnTurn}
use Rattle.interleaving_core.specs.declared.parts.Phase.TheVariants.{Idle}
use Rattle.interleaving_core.specs.Core.{claim_at, hold_at}
use Rattle.interleaving_core.specs.Events.{with_claim}
use Rattle.word_rule.specs.Views.{SeatKnows}
use Rattle.word_rule.specs.Rounds.{knows, IsSeatOf, IsOver, Stays}
use Rattle.word_rule.specs.declared.seat.SharedRound.{SharedRound}
use Rattle.word_rule.specs.declared.seat.WorkSeat.{WorkSeat}
use Rattle.claim_words.specs.Claimant.{MayClaim, MayPost}
use Rattle.gate_workers.specs.declared.gate.GatePoint.{GatePoint}
use Rattle.gate_workers.specs.declared.gate.GatePoint.TheVariants.{Claimed, BeforeRead, Posted, Took, Missed, Sealed, Released}

-- the seat has looked at flags and read seat counts: of what it knows of the core its claim alone
-- is another one
pub record HasMoved (old new : WorkSeat) (claim : Option Claiming) : Type 0 where
  pub core : (knows new).core ≡ with_claim (knows old).core claim
  pub tries : (knows new).tries ≡ (knows old).tries

-- the seat has gone along its turn's list up to an entry that has a seat left, or to its end
pub record HasRead (old new : WorkSeat) : Type 0 where
  pub claim : Option Claiming
  pub moved : HasMoved old new claim
  pub may : MayPost new

-- the seat has gone from this place of its turn's list on to a later one, as far as the list's end
pub record HasPassed (old new : WorkSeat) (turn place next : ℕ) : Type 0 where
  pub moved : HasMoved old new (claim_at turn next false false)
  pub later : place < next
  pub within : next ≤ length (list_at (knows old).dict turn)

-- the seat has met an entry of its turn's list that has a seat left
pub record HasMet (old new : WorkSeat) (turn : ℕ) : Type 0 where
  pub place : ℕ
  pub moved : HasMoved old new (claim_at turn place true true)

-- the seat has tried the mark once, and does not hold it
pub record HasTried (old new : WorkSeat) : Type 0 where
  pub own : (knows new).core.own ≡ (knows old).core.own
  pub done : (knows new).core.done ≡ (knows old).core.done
  pub claim : (knows new).core.claim ≡ None
  pub hold : (knows new).core.hold ≡ None
  pub owes : (knows new).core.owes ≡ false
  pub tries : (knows new).tries ≡ (knows old).tries + 1

-- the seat owes no try on the mark; its own turns rise, and each has a posted place; and it tried
-- the mark once for each turn that it drew
pub record HasWorked (old new : WorkSeat) : Type 0 where
  pub owes : (knows new).core.owes ≡ false
  pub placed : (i : ℕ) (x : OwnTurn) → slice_get (knows new).core.own i ≡ Some x → IsSome x.place
  pub rise : (i j : ℕ) (x y : OwnTurn) → slice_get (knows new).core.own i ≡ Some x
      → slice_get (knows new).core.own j ≡ Some y → i < j → x.turn < y.turn
  pub tries : (knows new).tries + length (knows old).core.own
      ≡ (knows old).tries + length (knows new).core.own

-- the last of these turns is turn k, which is posted
abbrev pub IsLastPosted : List OwnTurn → ℕ → Type 0
IsLastPosted own k = (earlier : List OwnTurn) × (j : ℕ)
    × (own ≡ earlier ++ record { turn = k; place = Some j } ∷ [])

-- the seat has tried the mark for the turn that it posted, does not hold it, and has not drawn
-- again
pub record HasMadeItsTry (x : SeatKnows) : Type 0 where
  pub claim : x.core.claim ≡ None
  pub hold : x.core.hold ≡ None
  pub owes : x.core.owes ≡ false
  pub working : x.core.done ≡ false
  pub tried : 0 < x.tries

-- the seat has come to this point: before a reading it has passed the entries before the place, met
-- none, and found the flag of the entry there lowered; at every other point the step is made, and
-- none after it. So who committed turn k took the mark with a number of at most k; and of who made
-- its try, the try missed the mark, or took it, and it has been given back
abbrev pub HasCome : SeatKnows → GatePoint → Type 0
HasCome x (Claimed k) = x.core.claim ≡ claim_at k 0 false false
HasCome x (BeforeRead k j) =
    (x.core.claim ≡ claim_at k j true false) × (j < length (list_at x.dict k))
HasCome x (Posted k) = (x.core.claim ≡ None) × (x.core.owes ≡ true) × IsLastPosted x.core.own k
HasCome x (Took c) = (x.core.hold ≡ hold_at c Idle) × (x.took ≡ c)
HasCome x Missed = HasMadeItsTry x × (x.missed ≡ true)
HasCome x (Sealed k) = (x.core.hold ≡ hold_at (k + 1) Idle) × (x.took ≤ k)
HasCome x (Released c) = HasMadeItsTry x × (x.missed ≡ false) × (x.released ≡ c)

-- it is a seat of this round that may draw
pub record IsReady (round : SharedRound) (me : WorkSeat) : Type 0 where
  pub of_round : IsSeatOf round me
  pub may : MayClaim me

-- it has worked until no turn was left
pub record HasFinished (round : SharedRound) (old new : WorkSeat) : Type 0 where
  pub stays : Stays old new
  pub over : IsOver round new
  pub worked : HasWorked old new
