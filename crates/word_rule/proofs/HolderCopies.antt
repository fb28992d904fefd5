-- The phase and the count that a seat's copies show are those of its view.
use Rattle.std.proofs.Common.{◌≡◌, ℕ, ◌<◌, true, length, Option, Some, None, sym, ap, subst, ◌∙◌, arith}
use Rattle.market.specs.Dictatorships.{Dictatorship, list_at}
use Rattle.interleaving_core.specs.declared.parts.Phase.{Phase}
use Rattle.interleaving_core.specs.declared.parts.Phase.TheVariants.{Idle, Seated}
use Rattle.interleaving_core.specs.declared.parts.Holding.{Holding}
use Rattle.interleaving_core.specs.Core.{turn_count, entry, hold_at}
use Rattle.interleaving_core.specs.Events.{Raises, IsAllowed}
use Rattle.word_rule.specs.Copies.{holding_of, phase_place}
use Rattle.word_rule.specs.Rounds.{knows, dict_of, IsSeatOf}
use Rattle.word_rule.specs.Raising.{MayRaise}
use Rattle.word_rule.specs.declared.seat.SharedRound.{SharedRound}
use Rattle.word_rule.specs.declared.seat.WorkSeat.{WorkSeat}

-- the phase and the count of a holding
abbrev pub phase_in : Option Holding → Phase
phase_in None = Idle
phase_in (Some h) = h.phase

-- and its count
abbrev pub count_in : Option Holding → ℕ
count_in None = 0
count_in (Some h) = h.committed

-- the phase that is there, or else idle
abbrev pub phase_or : Option Phase → Phase
phase_or None = Idle
phase_or (Some x) = x

shown : (o : Option Phase) (k c : ℕ) (x : Phase) → holding_of o k ≡ hold_at c x
    → (o ≡ Some x) × (k ≡ c)
shown None k c x e = absurd (cc (e))
shown (Some y) k c x e = (ap (λ h. Some (phase_in h)) e, ap count_in e)

-- the copies of a holder
pub held : (me : WorkSeat) (c : ℕ) (x : Phase) → (knows me).core.hold ≡ hold_at c x
    → (me.phase ≡ Some x) × (me.committed ≡ c)
held me c x is = shown me.phase me.committed c x (me.hold_is ∙ is)

-- the seat may raise the flag of the programme that its copies show, which is one of the round
pub record NextRaise (round : SharedRound) (me : WorkSeat) (place : ℕ) : Type 0 where
  pub may : IsAllowed (dict_of round) (knows me).core (Raises me.committed place)
  pub turn : me.committed < turn_count (dict_of round)
  pub in_list : place < length (list_at (dict_of round) me.committed)
  pub programme : entry (dict_of round) me.committed place < length (dict_of round).quota

-- it is so where a seat of the round shows this phase and may raise
pub next_raise : (round : SharedRound) (me : WorkSeat) (x : Phase) → IsSeatOf round me
    → me.phase ≡ Some x → MayRaise me → NextRaise round me (phase_place x)
next_raise round me x of_round is m =
    let h = held me m.committed (Seated m.place true) m.allowed in
    let same : m.place ≡ phase_place x = ap (λ o. phase_place (phase_or o)) (sym h.0 ∙ is) in
    let may = subst
    (λ (z : Dictatorship × (ℕ × ℕ)). IsAllowed z.0 (knows me).core (Raises z.1.0 z.1.1))
    (λ i. (of_round.dict i, (sym h.1 i, same i))) m.allowed in
    let seated = me.in_range.seated _ _ _ may in
    let seated_place = me.in_range.seated_place _ _ _ may in
    let turns = ap (λ (d : Dictatorship). turn_count d) of_round.dict in
    let places = ap (λ (d : Dictatorship). length (list_at d me.committed)) of_round.dict in
    let turn : me.committed < turn_count (dict_of round) = omega arith in
    let in_list : phase_place x < length (list_at (dict_of round) me.committed) = omega arith in
    record {
      may = may;
      turn = turn;
      in_list = in_list;
      programme = round.valid.list_entries me.committed (phase_place x) turn in_list;
    }
