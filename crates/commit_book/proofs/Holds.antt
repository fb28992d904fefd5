-- The phase and the count that a seat's copies show are those that its condition speaks of. So
-- what the condition says, and the ranges that every seat keeps, hold of the copies.
use Rattle.std.proofs.Common.{◌≡◌, ℕ, ◌<◌, ◌≤◌, length, Some, sym, refl, subst, ap, ◌∙◌, arith}
use Rattle.market.specs.Dictatorships.{Dictatorship, IsValidDictatorship, list_at}
use Rattle.interleaving_core.specs.declared.parts.Cell.{Cell}
use Rattle.interleaving_core.specs.declared.parts.Cell.TheVariants.{Empty, Posted, Committed}
use Rattle.interleaving_core.specs.declared.parts.Phase.{Phase}
use Rattle.interleaving_core.specs.declared.parts.Phase.TheVariants.{Idle, Halted, Scan, Ready, Seated, Raised}
use Rattle.interleaving_core.specs.Core.{turn_count, entry, is_committed, hold_at}
use Rattle.interleaving_core.specs.Events.{Looks, Weighs, Seats, Seals, Releases, IsAllowed, CanSeal, phase_after_look}
use Rattle.word_rule.specs.Layout.{cell_of}
use Rattle.word_rule.specs.Copies.{phase_place}
use Rattle.word_rule.specs.Views.{SeatMe}
use Rattle.word_rule.specs.Holder.{look_by, TellsLook}
use Rattle.word_rule.proofs.Layouts.{place_in, shows_small}
use Rattle.word_rule.proofs.HolderCopies.{phase_or, held}
use Rattle.word_rule.specs.Rounds.{knows, dict_of, IsSeatOf}
use Rattle.word_rule.specs.declared.seat.SharedRound.{SharedRound}
use Rattle.word_rule.specs.declared.seat.WorkSeat.{WorkSeat}
use Rattle.commit_book.specs.Holder.{MayLook, MayWeigh, MaySeat, MaySeal, MayRelease}

-- the word found is small, since the place found is one of the turn's list, or its length
pub found_small : (d : Dictatorship) (m n : SeatMe) (word found k : ℕ) → IsValidDictatorship d
    → m.0.dict ≡ d → m.0.core.hold ≡ hold_at k Idle → TellsLook word m found n → found ≤ 98
found_small d m n word found k valid dict hold told =
    let small = shows_small found in
    let place = by (cell_of found) refl in
    omega arith
  where
    by : (c : Cell) → cell_of found ≡ c → place_in c ≤ 48
    by Empty is = omega arith
    by (Committed j) is = absurd (let left = told.uncommitted in let q = ap is_committed is in
        cc (q, left))
    by (Posted j) is =
        let scan : n.0.core.hold ≡ hold_at k (Scan j) =
        ap (λ (q : SeatMe). q.0.core.hold) told.seat
        ∙ (ap (λ o. (look_by m.0.core o found).hold) hold
        ∙ ap (λ c. hold_at k (phase_after_look c)) is) in
        let same : n.0.dict ≡ d = ap (λ (q : SeatMe). q.0.dict) told.seat ∙ dict in
        let turn = told.range.scanned k j scan in
        let place = told.range.scanned_place k j scan in
        let turns = ap (λ (z : Dictatorship). turn_count z) same in
        let places = ap (λ (z : Dictatorship). length (list_at z k)) same in
        let most = valid.list_lengths k (omega arith) in
        omega arith

-- the seat may look at a turn of the round
pub next_look : (round : SharedRound) (me : WorkSeat) → MayLook me
    → me.committed < turn_count (dict_of round)
    → IsAllowed (dict_of round) (knows me).core (Looks me.committed)
next_look round me m inside =
    (m.idle ∙ ap (λ c. hold_at c Idle) (sym (held me m.committed Idle m.idle).1), inside)

-- the seat may weigh the entry that its copies show, whose programme is one of the round
pub record NextEntry (round : SharedRound) (me : WorkSeat) (place : ℕ) : Type 0 where
  pub may : IsAllowed (dict_of round) (knows me).core (Weighs me.committed place)
  pub turn : me.committed < turn_count (dict_of round)
  pub programme : entry (dict_of round) me.committed place < length (dict_of round).quota
  pub short : place < 48

-- it is so where a seat of the round shows that it has come to this place, and may weigh
pub next_entry : (round : SharedRound) (me : WorkSeat) (place : ℕ) → IsSeatOf round me
    → me.phase ≡ Some (Scan place) → MayWeigh me → NextEntry round me place
next_entry round me place of_round is m =
    let h = held me m.committed (Scan m.place) m.allowed.0 in
    let same : m.place ≡ place = ap (λ o. phase_place (phase_or o)) (sym h.0 ∙ is) in
    let may = subst
    (λ (z : Dictatorship × (ℕ × ℕ)). IsAllowed z.0 (knows me).core (Weighs z.1.0 z.1.1))
    (λ i. (of_round.dict i, (sym h.1 i, same i))) m.allowed in
    let scanned = me.in_range.scanned _ _ may.0 in
    let turns = ap (λ (d : Dictatorship). turn_count d) of_round.dict in
    let turn : me.committed < turn_count (dict_of round) = omega arith in
    let short = round.valid.list_lengths me.committed turn in
    let in_list = may.1 in
    record {
      may = may;
      turn = turn;
      programme = round.valid.list_entries me.committed place turn in_list;
      short = omega arith;
    }

-- the seat may take a seat of the entry that its copies show
pub record NextSeat (round : SharedRound) (me : WorkSeat) (place : ℕ) : Type 0 where
  pub may : IsAllowed (dict_of round) (knows me).core (Seats me.committed place)
  pub turn : me.committed < turn_count (dict_of round)
  pub in_list : place < length (list_at (dict_of round) me.committed)
  pub programme : entry (dict_of round) me.committed place < length (dict_of round).quota

-- it is so where a seat of the round shows this place as ready, and may take a seat
pub next_seat : (round : SharedRound) (me : WorkSeat) (place : ℕ) → IsSeatOf round me
    → me.phase ≡ Some (Ready place) → MaySeat me → NextSeat round me place
next_seat round me place of_round is m =
    let h = held me m.committed (Ready m.place) m.allowed in
    let same : m.place ≡ place = ap (λ o. phase_place (phase_or o)) (sym h.0 ∙ is) in
    let may = subst
    (λ (z : Dictatorship × (ℕ × ℕ)). IsAllowed z.0 (knows me).core (Seats z.1.0 z.1.1))
    (λ i. (of_round.dict i, (sym h.1 i, same i))) m.allowed in
    let ready = me.in_range.ready _ _ may in
    let ready_place = me.in_range.ready_place _ _ may in
    let turns = ap (λ (d : Dictatorship). turn_count d) of_round.dict in
    let places = ap (λ (d : Dictatorship). length (list_at d me.committed)) of_round.dict in
    let turn : me.committed < turn_count (dict_of round) = omega arith in
    let in_list : place < length (list_at (dict_of round) me.committed) = omega arith in
    record {
      may = may;
      turn = turn;
      in_list = in_list;
      programme = round.valid.list_entries me.committed place turn in_list;
    }

-- the seat may commit the first uncommitted turn at the place that its copies show
pub record NextSeal (round : SharedRound) (me : WorkSeat) (place : ℕ) : Type 0 where
  pub phase : Phase
  pub may : IsAllowed (dict_of round) (knows me).core (Seals me.committed place phase)
  pub turn : me.committed < turn_count (dict_of round)
  pub short : place ≤ 48

seal_place : (places j : ℕ) (x : Phase) → CanSeal places j x → phase_place x ≡ j
seal_place places j Idle e = absurd e
seal_place places j Halted e = absurd e
seal_place places j (Scan i) e = e.0
seal_place places j (Ready i) e = absurd e
seal_place places j (Seated i filled) e = e.0
seal_place places j (Raised i) e = e

-- it is so where a seat of the round shows a phase at this place, and may commit
pub next_seal : (round : SharedRound) (me : WorkSeat) (place : ℕ) (x : Phase) → IsSeatOf round me
    → me.phase ≡ Some x → phase_place x ≡ place → MaySeal me → NextSeal round me place
next_seal round me place x of_round is at m =
    let h = held me m.committed m.phase m.allowed.0 in
    let same_phase : m.phase ≡ x = ap phase_or (sym h.0 ∙ is) in
    let same : m.place ≡ place =
    sym (seal_place _ m.place m.phase m.allowed.1) ∙ (ap phase_place same_phase ∙ at) in
    let may = subst
    (λ (z : Dictatorship × (ℕ × ℕ)). IsAllowed z.0 (knows me).core (Seals z.1.0 z.1.1 m.phase))
    (λ i. (of_round.dict i, (sym h.1 i, same i))) m.allowed in
    let turns = ap (λ (d : Dictatorship). turn_count d) of_round.dict in
    let places = ap (λ (d : Dictatorship). length (list_at d me.committed)) of_round.dict in
    let range = in_list m.phase may.0 may.1 in
    let turn : me.committed < turn_count (dict_of round) = let t = range.0 in omega arith in
    let short = round.valid.list_lengths me.committed turn in
    record { phase = m.phase; may = may; turn = turn; short = let t = range.1 in omega arith }
  where
    in_list : (y : Phase) → (knows me).core.hold ≡ hold_at me.committed y
        → CanSeal (length (list_at (dict_of round) me.committed)) place y
        → (me.committed < turn_count (knows me).dict)
        × (place ≤ length (list_at (knows me).dict me.committed))
    in_list Idle e can = absurd can
    in_list Halted e can = absurd can
    in_list (Scan i) e can =
        let t = me.in_range.scanned_place _ _ e in
        let s = can.0 in
        (me.in_range.scanned _ _ e, omega arith)
    in_list (Ready i) e can = absurd can
    in_list (Seated i filled) e can =
        let t = me.in_range.seated_place _ _ _ e in
        let s = can.0 in
        (me.in_range.seated _ _ _ e, omega arith)
    in_list (Raised i) e can =
        let t = me.in_range.raised_place _ _ e in
        let s = can in
        (me.in_range.raised _ _ e, omega arith)

-- the seat may release with the count that its copy shows
pub record NextRelease (round : SharedRound) (me : WorkSeat) : Type 0 where
  pub phase : Phase
  pub may : IsAllowed (dict_of round) (knows me).core (Releases me.committed phase)

-- it is so where a seat of the round may release
pub next_release : (round : SharedRound) (me : WorkSeat) → IsSeatOf round me → MayRelease me
    → NextRelease round me
next_release round me of_round m =
    let h = held me m.committed m.phase m.allowed.0 in
    record {
      phase = m.phase;
      may = subst
          (λ (z : Dictatorship × ℕ). IsAllowed z.0 (knows me).core (Releases z.1 m.phase))
          (λ i. (of_round.dict i, sym h.1 i)) m.allowed;
    }
