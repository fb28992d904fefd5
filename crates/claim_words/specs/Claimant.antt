-- When a claimant's calls may be made, and the event that each of them is.
use Rattle.std.specs.Prelude.{◌≡◌, ℕ, ◌<◌, ◌≤◌, Bool, true, false, nat_lt, nat_le, Option, MatchOption}
use Rattle.interleaving_core.specs.Core.{turn_count, entry, quota_of, claim_at}
use Rattle.interleaving_core.specs.Events.{Claims, Reads, Posts, IsAllowed, after_claim, after_read, after_post}
use Rattle.word_rule.specs.Views.{with_core}
use Rattle.word_rule.specs.Claimant.{AreEarlier}
use Rattle.word_rule.specs.Rounds.{knows}
use Rattle.word_rule.specs.declared.seat.WorkSeat.{WorkSeat}

-- the seat may draw a turn: it has no claim, does not hold the mark, is not done and owes nothing
abbrev pub MayClaim : WorkSeat → Type 0
MayClaim me = IsAllowed (knows me).dict (knows me).core Claims

-- the seat may read an entry: it has passed the entries before this place of its turn's list, met
-- none, and found the flag of the next one lowered
pub record MayRead (me : WorkSeat) : Type 0 where
  pub turn : ℕ
  pub place : ℕ
  pub allowed : IsAllowed (knows me).dict (knows me).core (Reads turn place)

-- the seat may post its turn: it has met the entry at this place, or passed the whole list
pub record MayPost (me : WorkSeat) : Type 0 where
  pub turn : ℕ
  pub place : ℕ
  pub looked : Bool
  pub met : Bool
  pub allowed : IsAllowed (knows me).dict (knows me).core (Posts turn place looked met)

-- a draw: there is a number found at this step; the seat's view is the core's for it, and the
-- answer is that turn, or none where it lies past all turns
pub record IsClaim (old new : WorkSeat) (answer : Option ℕ) : Type 0 where
  pub found : ℕ
  pub view : knows new ≡ with_core (knows old) (after_claim (knows old).dict (knows old).core found)
  pub answered : MatchOption answer (turn_count (knows old).dict ≤ found)
      (λ turn. (turn ≡ found) × (found < turn_count (knows old).dict))
  pub earlier : AreEarlier (knows old).core.own found

-- a reading: there is a seat count found at this step; the seat's view is the core's for it, and
-- the answer is whether it has reached the quota
pub record IsRead (old new : WorkSeat) (answer : Bool) : Type 0 where
  pub turn : ℕ
  pub place : ℕ
  pub found : ℕ
  pub claim : (knows old).core.claim ≡ claim_at turn place true false
  pub view : knows new ≡ with_core (knows old)
      (after_read (nat_lt found (quota_of (knows old).dict (entry (knows old).dict turn place)))
      (knows old).core turn place)
  pub answered : answer ≡ nat_le (quota_of (knows old).dict (entry (knows old).dict turn place))
      found

-- a post: the seat's view is the core's for the place passed to, which is the answer
pub record IsPost (old new : WorkSeat) (answer : ℕ) : Type 0 where
  pub turn : ℕ
  pub looked : Bool
  pub met : Bool
  pub claim : (knows old).core.claim ≡ claim_at turn answer looked met
  pub view : knows new ≡ with_core (knows old) (after_post (knows old).core answer)
