-- What a stable placement shares with another that gives each candidate at least as much.
--
-- Who is placed in the first is placed in the second. A programme with more holders in the second
-- would have a free seat in the first, and one of these holders does not hold it there and prefers
-- it: the two would block the first. So no programme has more holders in the second. The candidates
-- placed are no fewer there, and they are all holders: so all numbers are equal, and the same
-- candidates are placed.
use Rattle.std.proofs.Common.{◌≡◌, ℕ, ◌<◌, ◌≤◌, true, false, List, length, Option, Some, None, refl, sym, ap, ◌∙◌, subst, arith, ⊎_elim, inl, inr}
use Rattle.std.specs.Prelude.{slice_index, is_some}
use Rattle.std.proofs.lemmas.Bool.{cases_lt, cases_Bool, cases_order, false≢true}
use Rattle.market.specs.Counting.{count_of, sum_below}
use Rattle.market.specs.Problems.{Problem, IsValid, place_of, kind_of, list_of, order_of, turn_of}
use Rattle.market.specs.Stability.{held_by, Prefers, IsStable}
use Rattle.market.specs.Comparisons.{HoldsAtLeast, GivesAtLeast}
use Rattle.market.specs.Mechanism.{mechanism_placement}
use Rattle.market.proofs.Firsts.{place_same, place_get}
use Rattle.market.proofs.Turns.{is_programme-from}
use Rattle.market.proofs.Counts.{sum_le, sum_lt}
use Rattle.market.proofs.Tentatives.{candidate_at}
use Rattle.market.proofs.Valid.{candidate_lt, listed_kind, admitted-turn, turn-better}
use Rattle.stable_laws.proofs.Worst.{worst_of_stable}
use Rattle.fixed_seats.specs.Shared.{FillsAlike, HasBetterHolders}
use Rattle.fixed_seats.proofs.Totals.{holder_more, placed_count, sum_holders, placed_le, placed_lt}

-- a listed programme is one of the market
pub listed_lt : (m : Problem) → IsValid m → (i p : ℕ)
    → place_of p (list_of m i) < length (list_of m i) → p < length m.programmes
listed_lt m v i p listed =
    let own = candidate_lt m i (place_of p (list_of m i)) listed in
    subst (λ (q : ℕ). q < length m.programmes) (place_get p (list_of m i) 0 listed)
    (v.list_entries i (place_of p (list_of m i)) own listed)

-- so is a programme that is held in a stable placement
pub programme_lt : (m : Problem) → IsValid m → (held : List (Option ℕ)) → IsStable m held
    → (i p : ℕ) → held_by held i ≡ Some p → p < length m.programmes
programme_lt m v held s i p holds = listed_lt m v i p (s.placement.acceptable i p holds).listed

module _ (m : Problem) (v : IsValid m) (given other : List (Option ℕ)) (g : IsStable m given)
    (st : IsStable m other) (least : GivesAtLeast m given other) where
  -- both have an entry for each candidate
  same_length : length given ≡ length other
  same_length =
      let a = g.placement.candidates in let b = st.placement.candidates in omega arith

  -- who holds p in the second alone prefers it to what the first gives
  prefers-other : (i p : ℕ) → held_by other i ≡ Some p → (held_by given i ≡ Some p → ⊥)
      → Prefers (list_of m i) p (held_by given i)
  prefers-other i p holds not_given = by_given (held_by given i) refl
    where
      by_given : (o : Option ℕ) → held_by given i ≡ o
          → Prefers (list_of m i) p (held_by given i)
      by_given None nothing =
          subst (Prefers (list_of m i) p) (sym nothing) (st.placement.acceptable i p holds).listed
      by_given (Some q) something =
          let no_later : place_of p (list_of m i) ≤ place_of q (list_of m i)
          = subst (HoldsAtLeast (list_of m i) (Some q)) holds
          (subst (λ (o : Option ℕ). HoldsAtLeast (list_of m i) o (held_by other i)) something
          (least i)) in
          let listed = (g.placement.acceptable i q something).listed in
          subst (Prefers (list_of m i) p) (sym something)
          (⊎_elim
          (λ same. absurd (not_given (something
          ∙ ap Some (sym (place_same p q (list_of m i) (omega arith) same)))))
          (λ o. ⊎_elim (λ sooner. (sooner, listed)) (λ later. absurd (omega arith)) o)
          (cases_order (place_of p (list_of m i)) (place_of q (list_of m i))))

  -- so no programme has more holders in the second
  no_more_holders : (p : ℕ) → count_of p other ≤ count_of p given
  no_more_holders p =
      ⊎_elim
      (λ less.
      let one = holder_more p given other same_length less in
      let i = one.turn in
      let preferred = prefers-other i p one.has
      (λ h. false≢true (sym one.has_not ∙ is_programme-from p (held_by given i) h)) in
      let most = st.placement.quotas p in
      absurd (g.unblocked i p (record {
        acceptable = st.placement.acceptable i p one.has;
        preferred = preferred;
        room = inl (omega arith);
      })))
      (λ no_more. no_more)
      (cases_lt (count_of p given) (count_of p other))

  -- who is placed in the first is placed in the second
  keeps_placed : (i : ℕ) → is_some (held_by given i) ≡ true → is_some (held_by other i) ≡ true
  keeps_placed i placed = by_both (held_by given i) (held_by other i) (least i) placed
    where
      by_both : (a b : Option ℕ) → HoldsAtLeast (list_of m i) a b → is_some a ≡ true
          → is_some b ≡ true
      by_both None b h t = absurd (false≢true t)
      by_both (Some p) None h t = absurd h
      by_both (Some p) (Some q) h t = refl

  -- the holders of all programmes, in the one and in the other
  given_total : sum_below (λ p. count_of p given) (length m.programmes) ≡ placed_count given
  given_total = sum_holders (length m.programmes) given (programme_lt m v given g)

  other_total : sum_below (λ p. count_of p other) (length m.programmes) ≡ placed_count other
  other_total = sum_holders (length m.programmes) other (programme_lt m v other st)

  -- as many candidates are placed
  same_placed : placed_count given ≡ placed_count other
  same_placed =
      let a = given_total in
      let b = other_total in
      let c = sum_le (λ p. count_of p other) (λ p. count_of p given) (length m.programmes)
      (λ p l. no_more_holders p) in
      let d = placed_le given other same_length keeps_placed in
      omega arith

  -- and each programme has as many holders
  same_holders : (p : ℕ) → count_of p other ≡ count_of p given
  same_holders p =
      let most = no_more_holders p in
      ⊎_elim
      (λ fewer. absurd (⊎_elim
      (λ within.
      let a = given_total in
      let b = other_total in
      let c = sum_lt (λ p. count_of p other) (λ p. count_of p given) (length m.programmes) p
      (λ p l. no_more_holders p) within fewer in
      let d = same_placed in
      absurd (omega arith))
      (λ past.
      let one = holder_more p other given (sym same_length) fewer in
      let within = programme_lt m v given g one.turn p one.has in
      absurd (omega arith))
      (cases_lt p (length m.programmes))))
      (λ no_fewer. omega arith)
      (cases_lt (count_of p other) (count_of p given))

  none_of : (o : Option ℕ) → is_some o ≡ false → o ≡ None
  none_of None e = refl
  none_of (Some p) e = absurd (false≢true (sym e))

  -- who holds nothing in the first holds nothing in the second
  still_unplaced : (i : ℕ) → held_by given i ≡ None → held_by other i ≡ None
  still_unplaced i nothing =
      ⊎_elim
      (λ placed.
      let more = placed_lt given other i same_length keeps_placed
      (ap (λ (o : Option ℕ). is_some o) nothing) placed in
      let same = same_placed in
      absurd (omega arith))
      (λ unplaced. none_of (held_by other i) unplaced)
      (cases_Bool (is_some (held_by other i)))

  -- nor the other way round
  was_unplaced : (i : ℕ) → held_by other i ≡ None → held_by given i ≡ None
  was_unplaced i nothing =
      ⊎_elim
      (λ placed. absurd (false≢true
      (sym (ap (λ (o : Option ℕ). is_some o) nothing) ∙ keeps_placed i placed)))
      (λ unplaced. none_of (held_by given i) unplaced)
      (cases_Bool (is_some (held_by given i)))

  -- the first fills as the second does
  pub fills_alike : FillsAlike given other
  fills_alike =
      record { unplaced = λ i. (still_unplaced i, was_unplaced i); holders = same_holders }

  -- Of a holder in the first alone and one in the second alone the second has the later turn: with
  -- an earlier one it would block the first.
  pub better : HasBetterHolders m given other
  better p i j first second =
      let t = kind_of m p in
      let ai = g.placement.acceptable i p first.holds in
      let aj = st.placement.acceptable j p second.holds in
      let type_lt = listed_kind m v i p ai.listed in
      let turn_i = admitted-turn m v i p type_lt ai.admitted in
      let turn_j = admitted-turn m v j p type_lt aj.admitted in
      ⊎_elim
      (λ same. absurd (second.not_there (ap (held_by given)
      (sym (candidate_at m t j turn_j) ∙ ap (slice_index (order_of m t)) (sym same)
      ∙ candidate_at m t i turn_i) ∙ first.holds)))
      (λ o. ⊎_elim
      (λ sooner. turn-better m v t i j type_lt sooner turn_j)
      (λ later. absurd (g.unblocked j p (record {
        acceptable = aj;
        preferred = prefers-other j p second.holds second.not_there;
        room = inr (record {
          holder = i;
          holds = first.holds;
          worse = turn-better m v t j i type_lt later turn_i;
        });
      })))
      o)
      (cases_order (turn_of m t i) (turn_of m t j))

-- ---- the mechanism's placement and any other stable one

pub fills_as_mechanism : (m : Problem) → IsValid m → (other : List (Option ℕ)) → IsStable m other
    → FillsAlike (mechanism_placement m) other
fills_as_mechanism m v other st =
    let w = worst_of_stable m v in
    fills_alike m v (mechanism_placement m) other w.stable st (w.worst other st)

pub better_than_others : (m : Problem) → IsValid m → (other : List (Option ℕ)) → IsStable m other
    → HasBetterHolders m (mechanism_placement m) other
better_than_others m v other st =
    let w = worst_of_stable m v in
    better m v (mechanism_placement m) other w.stable st (w.worst other st)
