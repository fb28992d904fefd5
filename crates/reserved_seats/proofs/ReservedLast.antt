-- In a stable placement of the expanded market, who holds a reserved seat could get no general one:
-- the general seats of the programme stand before it in the list, so a free one, or one held by a
-- worse rank, would block.
use Rattle.std.proofs.Common.{◌≡◌, ℕ, ◌+◌, ◌<◌, ◌≤◌, ◌⊎◌, List, length, true, Option, Some, sym, ap, ◌∙◌, subst, arith, ⊎_elim, inl, inr}
use Rattle.std.specs.Prelude.{IsTrue}
use Rattle.std.proofs.lemmas.Bool.{cases_lt, cases_order}
use Rattle.std.proofs.lemmas.Option.{same_Some}
use Rattle.market.specs.Counting.{count_of}
use Rattle.market.specs.Problems.{Problem, IsAcceptable, IsValid, admits, kind_of, list_of, order_of, place_of, quota_of, rank_of, turn_of}
use Rattle.market.specs.Stability.{HasWorseHolder, IsBetter, IsStable, Prefers, held_by}
use Rattle.market.proofs.Firsts.{place_same}
use Rattle.market.proofs.Valid.{admitted-turn, candidate_lt, turn-better}
use Rattle.reserved_seats.specs.Reservations.{Reservation, is_marked}
use Rattle.reserved_seats.specs.Expansion.{expanded, offered_list}
use Rattle.reserved_seats.specs.Holders.{HasNoGeneralSeat, HoldReservedLast}
use Rattle.reserved_seats.proofs.Acceptance.{admits-general, kind-general, offers-acceptable, quota-general, rank-same}
use Rattle.reserved_seats.proofs.Listing.{general-before}
use Rattle.reserved_seats.proofs.Validity.{entries-within, length-lists, list-at}

-- candidates of the same turn are one
same-turn : (m : Problem) (t i j : ℕ) → turn_of m t i < length (order_of m t)
    → turn_of m t i ≡ turn_of m t j → i ≡ j
unfolding turn_of
same-turn m t i j inside same = place_same i j (order_of m t) inside same

module _ (m : Problem) (r : Reservation) (v : IsValid m) (held : List (Option ℕ))
    (s : IsStable (expanded m r) held) where
  abbrev rows : ℕ
  rows = length m.programmes

  -- who holds something is a candidate
  holder_lt : (i q : ℕ) → held_by held i ≡ Some q → i < length m.lists
  holder_lt i q holds =
      let a = s.placement.acceptable i q holds in
      let n = length-lists m r in
      let lt = candidate_lt (expanded m r) i (place_of q (list_of (expanded m r) i)) a.listed in
      omega arith

  module _ (i p : ℕ) (lt : p < rows) (holds : held_by held i ≡ Some (rows + p)) where
    i_lt : i < length m.lists
    i_lt = holder_lt i (rows + p) holds

    -- i is marked, and finds the general seats acceptable
    may_hold : IsTrue (is_marked r.marked i) × IsAcceptable m i p
    may_hold = ((offers-acceptable m r v).of_marked i p i_lt lt).0
        (s.placement.acceptable i (rows + p) holds)

    -- i prefers them
    prefers : Prefers (list_of (expanded m r) i) p (held_by held i)
    prefers =
        let listed = (s.placement.acceptable i (rows + p) holds).listed in
        let at = list-at m r i i_lt
        ∙ ap (λ b. offered_list rows b (list_of m i)) may_hold.0 in
        subst (Prefers (list_of (expanded m r) i) p) (sym holds) (
          subst (λ xs. place_of p xs < place_of (rows + p) xs) (sym at)
              (general-before rows p (list_of m i) lt (entries-within m r v i i_lt)
              (subst (λ xs. place_of (rows + p) xs < length xs) at listed)),
          listed,
        )

    -- so none is free, and nobody of worse rank holds one
    no_room : (count_of p held < quota_of (expanded m r) p) ⊎ HasWorseHolder (expanded m r) held i p
        → ⊥
    no_room room = s.unblocked i p (record {
      acceptable = ((offers-acceptable m r v).of_all i p i_lt lt).1 may_hold.1;
      preferred = prefers;
      room = room;
    })

    full : count_of p held ≡ quota_of m p
    full =
        let most = s.placement.quotas p in
        let quota = quota-general m r p lt in
        ⊎_elim
        (λ (free : count_of p held < quota_of (expanded m r) p). absurd (no_room (inl free)))
        (λ (none : quota_of (expanded m r) p ≤ count_of p held). omega arith)
        (cases_lt (count_of p held) (quota_of (expanded m r) p))

    -- who is admitted by p has a turn in its type
    turn : (j : ℕ) → admits m p j ≡ true
        → turn_of m (kind_of m p) j < length (order_of m (kind_of m p))
    turn j admitted = admitted-turn m v j p (v.kinds p lt) admitted

    -- a rank better than a holder's would block
    no_worse : (j : ℕ) → held_by held j ≡ Some p
        → IsBetter (rank_of m (kind_of m p) i) (rank_of m (kind_of m p) j) → ⊥
    no_worse j holds_p better = no_room (inr (record {
      holder = j;
      holds = holds_p;
      worse = subst (λ t. IsBetter (rank_of (expanded m r) t i) (rank_of (expanded m r) t j))
          (sym (kind-general m r p lt))
          (subst (λ a. IsBetter a (rank_of (expanded m r) (kind_of m p) j))
          (sym (rank-same m r (kind_of m p) i))
          (subst (IsBetter (rank_of m (kind_of m p) i))
          (sym (rank-same m r (kind_of m p) j)) better));
    }))

    better : (j : ℕ) → held_by held j ≡ Some p
        → IsBetter (rank_of m (kind_of m p) j) (rank_of m (kind_of m p) i)
    better j holds_p =
        let t = kind_of m p in
        let t_lt = v.kinds p lt in
        let of_i = turn i may_hold.1.admitted in
        let of_j = turn j (sym (admits-general m r p j lt)
        ∙ (s.placement.acceptable j p holds_p).admitted) in
        ⊎_elim
        (λ (same : turn_of m t i ≡ turn_of m t j).
        let one = same-turn m t i j of_i same in
        let index = same_Some (rows + p) p (sym holds ∙ ap (held_by held) one ∙ holds_p) in
        absurd (omega arith))
        (λ o. ⊎_elim
        (λ (earlier : turn_of m t i < turn_of m t j).
        absurd (no_worse j holds_p (turn-better m v t i j t_lt earlier of_j)))
        (λ (later : turn_of m t j < turn_of m t i). turn-better m v t j i t_lt later of_i)
        o)
        (cases_order (turn_of m t i) (turn_of m t j))

    no_general : HasNoGeneralSeat m held i p
    no_general = record { full = full; better = better }

  pub reserved-last : HoldReservedLast m r held
  reserved-last = record {
    marked = λ i p lt holds. (may_hold i p lt holds).0;
    general_full = λ i p lt holds. no_general i p lt holds;
  }
