-- The placement of the mechanism is stable.
--
-- Let a programme be acceptable to a candidate and preferred to what the candidate holds. It was
-- full at the candidate's turn in the last round: else the turn would have taken it or one listed
-- before it, since it stands within the cut (a candidate who was cut holds a programme, and the cut
-- lies behind that one). The seats taken before the turn are held by candidates with earlier turns,
-- so the programme has neither a free seat nor a holder of worse rank.
use Rattle.std.proofs.Common.{◌≡◌, ℕ, ◌<◌, ◌≤◌, true, List, length, Option, Some, None, refl, sym, ◌∙◌, subst, arith, ⊎_elim}
use Rattle.std.specs.Prelude.{slice_index}
use Rattle.std.proofs.lemmas.Bool.{cases_lt}
use Rattle.std.proofs.lemmas.Option.{none-some}
use Rattle.market.specs.Problems.{Problem, IsValid, IsAcceptable, place_of, kind_of, quota_of, list_of, turn_of}
use Rattle.market.specs.Stability.{held_by, Prefers, IsBlocking, IsStable}
use Rattle.market.specs.Dictatorships.{pick}
use Rattle.market.specs.Mechanism.{type_dictatorship, tentative, cuts_after, is_settled, cutting_rounds, best_programme, best_programmes, mechanism_placement}
use Rattle.market.proofs.Tallies.{seats_taken-tally, tally-mono}
use Rattle.market.proofs.Tentatives.{tentative-takes, takes_by, seats_before, offered-from}
use Rattle.market.proofs.Rounds.{best_programme-takes, best_by, rounds_end}
use Rattle.market.proofs.Valid.{candidate_lt, listed_kind, admitted-turn, better-turn}
use Rattle.stable_laws.proofs.CutCandidates.{CutTakes, cut_takes}
use Rattle.stable_laws.proofs.Holders.{best_programme-within, holder-takes, is_placement, seats-held}

-- ---- a programme that the candidate prefers to what is placed

-- it stands within the cut
preferred-within : (m : Problem) (cuts : List ℕ) → CutTakes m cuts → (i p : ℕ)
    → place_of p (list_of m i) < length (list_of m i)
    → Prefers (list_of m i) p (best_programme m cuts i) → place_of p (list_of m i) < slice_index
    cuts i
preferred-within m cuts cut i p listed preferred = by_placed (best_programme m cuts i) refl
    preferred
  where
    by_placed : (o : Option ℕ) → best_programme m cuts i ≡ o → Prefers (list_of m i) p o
        → place_of p (list_of m i) < slice_index cuts i
    by_placed None nothing pref =
        ⊎_elim
        (λ short.
        let some = cut i (candidate_lt m i (place_of p (list_of m i)) listed) short in
        let best = best_by m cuts some.kind i some.programme some.takes in
        absurd (none-some best.best (sym nothing ∙ best.is_best.is_placed)))
        (λ whole. omega arith)
        (cases_lt (slice_index cuts i) (length (list_of m i)))
    by_placed (Some b) something pref =
        let x = tentative-takes m cuts (kind_of m b) i b (best_programme-takes m cuts i b
        something) in
        omega (arith, x.within, pref.0)

-- no tentative programme is as good
nothing_as_good : (m : Problem) (cuts : List ℕ) (i p t q : ℕ)
    → Prefers (list_of m i) p (best_programme m cuts i) → tentative m cuts t i ≡ Some q
    → place_of q (list_of m i) ≤ place_of p (list_of m i) → ⊥
nothing_as_good m cuts i p t q preferred takes no_later =
    let best = best_by m cuts t i q takes in
    let before = subst (Prefers (list_of m i) p) best.is_best.is_placed preferred in
    absurd (omega (arith, before.0, best.no_later))

module _ (m : Problem) (v : IsValid m) (cuts : List ℕ) (cut : CutTakes m cuts) where
  -- it has no seat left at the candidate's turn, where it is acceptable
  full-at : (i p : ℕ) → IsAcceptable m i p → Prefers (list_of m i) p (held_by (best_programmes m
      cuts) i)
      → quota_of m p ≤ seats_before m cuts (kind_of m p) i p
  full-at i p acceptable preferred =
      let t = kind_of m p in
      let listed = acceptable.listed in
      let candidate = candidate_lt m i (place_of p (list_of m i)) listed in
      let pref = subst (Prefers (list_of m i) p) (best_programme-within m cuts i candidate)
      preferred in
      ⊎_elim
      (λ room.
      let as_good =
      takes_by m cuts t i p
      (record {
        turn = admitted-turn m v i p (listed_kind m v i p listed) acceptable.admitted;
        offered = offered-from m t i p refl acceptable.admitted;
        kind = refl;
        listed = listed;
        within = preferred-within m cuts cut i p listed pref;
        room = room;
      }) in
      absurd (nothing_as_good m cuts i p t as_good.entry pref as_good.takes as_good.no_later))
      (λ full. full)
      (cases_lt (seats_before m cuts t i p) (quota_of m p))

  -- ---- stability

  -- where nobody has several, the seats taken are held, and by candidates with earlier turns
  unblocked : is_settled m cuts ≡ true → (i p : ℕ) → IsBlocking m (best_programmes m cuts) i p → ⊥
  unfolding seats_before
  unblocked settled i p blocking =
      let t = kind_of m p in
      let d = type_dictatorship m cuts t in
      let a = blocking.acceptable in
      let types = listed_kind m v i p a.listed in
      let turn = admitted-turn m v i p types a.admitted in
      let full = full-at i p a blocking.preferred in
      let held = seats-held m v cuts settled p (turn_of m t i) (omega arith) in
      ⊎_elim
      (λ free_seat. omega arith)
      (λ worse_holder.
      let j = worse_holder.holder in
      let x = tentative-takes m cuts t j p (holder-takes m cuts j p worse_holder.holds) in
      let later = better-turn m v t i j types turn x.turn worse_holder.worse in
      let more = tally-mono (pick d) (turn_of m t i) (turn_of m t j) p (omega arith) in
      let seats_i = seats_taken-tally d (turn_of m t i) p in
      let seats_j = seats_taken-tally d (turn_of m t j) p in
      omega (arith, x.room))
      blocking.room

  -- where nobody has several, the best programmes taken are a stable placement
  pub settled-stable : is_settled m cuts ≡ true → IsStable m (best_programmes m cuts)
  settled-stable settled =
      record { placement = is_placement m v cuts; unblocked = unblocked settled }

-- the mechanism's placement is stable
pub stable : (m : Problem) → IsValid m → IsStable m (mechanism_placement m)
unfolding mechanism_placement
stable m v =
    let last = cutting_rounds m in
    settled-stable m v (cuts_after m last) (cut_takes m last) (rounds_end m).last
