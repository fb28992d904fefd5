-- What each atomic step of a claimant tells, by the word that it is made on and what was found
-- there: that the event could be made at this step, on its own word, and what the seat is then.
use Rattle.std.specs.Prelude.{◌≡◌, ℕ, ◌/◌, ◌<◌, List, [], ◌∷◌, ◌++◌, nat_lt, slice_get, Option, Some, None, IsSome}
use Rattle.market.specs.Dictatorships.{Dictatorship}
use Rattle.interleaving_core.specs.declared.parts.Claiming.{Claiming}
use Rattle.interleaving_core.specs.declared.parts.OwnTurn.{OwnTurn}
use Rattle.interleaving_core.specs.declared.events.CoreEvent.TheVariants.{Claim, Flags, Read, Post}
use Rattle.interleaving_core.specs.Flags.{flag_group}
use Rattle.interleaving_core.specs.Core.{View, entry, quota_of}
use Rattle.interleaving_core.specs.Events.{after_claim, after_flags, after_read, after_post}
use Rattle.word_rule.specs.Views.{SeatKnows, SeatMe, me_with}
use Rattle.word_rule.specs.Copies.{IsInRange}
use Rattle.word_rule.specs.Conditions.{MayMake}

-- own turns that rise, lie below the number just drawn, and were all posted
pub record AreEarlier (own : List OwnTurn) (found : ℕ) : Type 0 where
  pub below : (i : ℕ) (x : OwnTurn) → slice_get own i ≡ Some x → x.turn < found
  pub placed : (i : ℕ) (x : OwnTurn) → slice_get own i ≡ Some x → IsSome x.place
  pub rise : (i j : ℕ) (x y : OwnTurn) → slice_get own i ≡ Some x → slice_get own j ≡ Some y
      → i < j → x.turn < y.turn

-- a draw: the number found is the turn claimed, or past all turns
pub record TellsClaim (word : ℕ) (m : SeatMe) (found : ℕ) (n : SeatMe) : Type 0 where
  pub before : MayMake m Claim word
  pub seat : n ≡ me_with m (after_claim m.0.dict m.0.core found)
  pub range : IsInRange n.0.dict n.0.core
  pub earlier : AreEarlier m.0.core.own found

-- the seat after it looked at the word that has the flag of its next entry: the entries from there
-- on whose flags are raised in the word are passed, and the word is kept
abbrev pub flags_by : SeatKnows → Option Claiming → ℕ → SeatKnows
flags_by x None found = x
flags_by x (Some c) found =
    record x {
      core = after_flags x.dict x.core c.turn c.passed found;
      flags = x.flags ++ (flag_group (entry x.dict c.turn c.passed), found) ∷ [];
    }

-- a look at flags, by the word found
pub record TellsFlags (word : ℕ) (m : SeatMe) (found : ℕ) (n : SeatMe) : Type 0 where
  pub before : MayMake m Flags word
  pub seat : n ≡ (flags_by m.0 m.0.core.claim found, m.1)
  pub range : IsInRange n.0.dict n.0.core

-- the view after a reading of the next entry's seat word: the entry is met where the count found
-- lies below the quota, and else passed
abbrev pub read_by : Dictatorship → View → Option Claiming → ℕ → View
read_by d v None found = v
read_by d v (Some x) found =
    after_read (nat_lt found (quota_of d (entry d x.turn x.passed))) v x.turn x.passed

-- a reading: by the seat count found the entry is met or passed
pub record TellsRead (word : ℕ) (m : SeatMe) (found : ℕ) (n : SeatMe) : Type 0 where
  pub before : MayMake m Read word
  pub seat : n ≡ me_with m (read_by m.0.dict m.0.core m.0.core.claim found)
  pub range : IsInRange n.0.dict n.0.core

-- a post: half the word stored is the place
pub record TellsPost (word : ℕ) (m : SeatMe) (stored : ℕ) (n : SeatMe) : Type 0 where
  pub before : MayMake m Post word
  pub seat : n ≡ me_with m (after_post m.0.core (stored / 2))
  pub range : IsInRange n.0.dict n.0.core
