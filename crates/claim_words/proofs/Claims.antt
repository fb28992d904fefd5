-- The claim that a seat's copy shows is the one that its condition speaks of. So what the condition
-- says, and the ranges that every seat keeps, hold of the copy.
use Rattle.std.proofs.Common.{◌≡◌, ℕ, ◌<◌, Bool, length, Some, subst, ap, arith}
use Rattle.market.specs.Dictatorships.{Dictatorship}
use Rattle.interleaving_core.specs.declared.parts.Claiming.{Claiming}
use Rattle.interleaving_core.specs.Core.{turn_count, entry, claim_at}
use Rattle.interleaving_core.specs.Events.{Reads, Posts, IsAllowed}
use Rattle.word_rule.specs.Rounds.{knows, dict_of, IsSeatOf}
use Rattle.word_rule.specs.declared.seat.SharedRound.{SharedRound}
use Rattle.word_rule.specs.declared.seat.WorkSeat.{WorkSeat}
use Rattle.claim_words.specs.Claimant.{MayRead, MayPost}

is_claim : (me : WorkSeat) (x : Claiming) (k j : ℕ) (looked met : Bool)
    → me.claim ≡ Some x → (knows me).core.claim ≡ claim_at k j looked met
    → record { turn = k; passed = j; looked = looked; met = met } ≡ x
is_claim me x k j looked met shown is = let copy = me.claim_is in cc (shown, copy, is)

-- the seat may read the next entry of the claim shown, whose programme is one of the round
pub record NextEntry (round : SharedRound) (me : WorkSeat) (x : Claiming) : Type 0 where
  pub may : IsAllowed (dict_of round) (knows me).core (Reads x.turn x.passed)
  pub programme : entry (dict_of round) x.turn x.passed < length (dict_of round).quota
  pub short : x.passed < 48

-- it is so where a seat of the round shows this claim and may read
pub next_entry : (round : SharedRound) (me : WorkSeat) (x : Claiming) → IsSeatOf round me
    → me.claim ≡ Some x → MayRead me → NextEntry round me x
next_entry round me x of_round shown m =
    let is = is_claim me x m.turn m.place _ _ shown m.allowed.0 in
    let may = subst
    (λ (z : Dictatorship × Claiming). IsAllowed z.0 (knows me).core (Reads z.1.turn z.1.passed))
    (λ i. (of_round.dict i, is i)) m.allowed in
    let drawn = me.in_range.claimed _ _ _ _ may.0 in
    let turns = ap (λ (d : Dictatorship). turn_count d) of_round.dict in
    let short = round.valid.list_lengths x.turn (omega arith) in
    let in_list = may.1 in
    record {
      may = may;
      programme = round.valid.list_entries x.turn x.passed (omega arith) may.1;
      short = omega arith;
    }

-- the seat may post the claim shown, whose turn is one of the round
pub record NextPost (round : SharedRound) (me : WorkSeat) (x : Claiming) : Type 0 where
  pub may : IsAllowed (dict_of round) (knows me).core (Posts x.turn x.passed x.looked x.met)
  pub turn : x.turn < turn_count (dict_of round)

-- it is so where a seat of the round shows this claim and may post
pub next_post : (round : SharedRound) (me : WorkSeat) (x : Claiming) → IsSeatOf round me
    → me.claim ≡ Some x → MayPost me → NextPost round me x
next_post round me x of_round shown m =
    let is = is_claim me x m.turn m.place m.looked m.met shown m.allowed.0 in
    let may = subst
    (λ (z : Dictatorship × Claiming). IsAllowed z.0 (knows me).core
    (Posts z.1.turn z.1.passed z.1.looked z.1.met))
    (λ i. (of_round.dict i, is i)) m.allowed in
    let drawn = me.in_range.claimed _ _ _ _ may.0 in
    let turns = ap (λ (d : Dictatorship). turn_count d) of_round.dict in
    record { may = may; turn = omega arith }
