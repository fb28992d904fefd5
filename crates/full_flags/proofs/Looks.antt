-- The claim that a seat's copy shows is the one that its condition speaks of: so its next entry is
-- one of the round, and the seat's copy after a look is the claim that the look leads to.
use Rattle.std.proofs.Common.{◌≡◌, ◌<◌, false, length, Some, subst, ap, arith}
use Rattle.market.specs.Dictatorships.{Dictatorship, list_at}
use Rattle.interleaving_core.specs.declared.parts.Claiming.{Claiming}
use Rattle.interleaving_core.specs.Core.{turn_count, entry}
use Rattle.interleaving_core.specs.Events.{ReadsFlags, IsAllowed}
use Rattle.word_rule.specs.Rounds.{knows, dict_of, IsSeatOf}
use Rattle.word_rule.specs.declared.seat.SharedRound.{SharedRound}
use Rattle.word_rule.specs.declared.seat.WorkSeat.{WorkSeat}
use Rattle.full_flags.specs.Flags.{MayReadFlags}

-- the seat may look at the flags of the claim shown, whose next entry's programme is of the round
pub record NextLook (round : SharedRound) (me : WorkSeat) (x : Claiming) : Type 0 where
  pub may : IsAllowed (dict_of round) (knows me).core (ReadsFlags x.turn x.passed)
  pub turn : x.turn < turn_count (dict_of round)
  pub place : x.passed < length (list_at (dict_of round) x.turn)
  pub programme : entry (dict_of round) x.turn x.passed < length (dict_of round).quota

-- it is so where a seat of the round shows this claim and may look at flags
pub next_look : (round : SharedRound) (me : WorkSeat) (x : Claiming) → IsSeatOf round me
    → me.claim ≡ Some x → MayReadFlags me → NextLook round me x
next_look round me x of_round shown m =
    let is : record { turn = m.turn; passed = m.place; looked = false; met = false } ≡ x =
    let copy = me.claim_is in let claim = m.allowed.0 in cc (shown, copy, claim) in
    let may = subst
    (λ (z : Dictatorship × Claiming). IsAllowed z.0 (knows me).core
    (ReadsFlags z.1.turn z.1.passed))
    (λ i. (of_round.dict i, is i)) m.allowed in
    let drawn = me.in_range.claimed _ _ _ _ may.0 in
    let turns = ap (λ (d : Dictatorship). turn_count d) of_round.dict in
    let turn : x.turn < turn_count (dict_of round) = omega arith in
    record {
      may = may;
      turn = turn;
      place = may.1;
      programme = round.valid.list_entries x.turn x.passed turn may.1;
    }
