-- Who may hold what in the expanded market.
use Rattle.std.proofs.Common.{◌≡◌, ℕ, ◌+◌, ◌<◌, true, length, refl, sym, ap, ◌∙◌, subst}
use Rattle.std.specs.Prelude.{◌↔◌, IsTrue}
use Rattle.market.specs.declared.programme.Prog.{Prog}
use Rattle.market.specs.Problems.{Problem, IsAcceptable, IsValid, admits, admits_rank, bar_of, kind_of, list_of, order_of, quota_of, rank_of, ranks_of, turn_of}
use Rattle.reserved_seats.specs.Reservations.{Reservation, is_marked}
use Rattle.reserved_seats.specs.Expansion.{expanded, offered_list}
use Rattle.reserved_seats.specs.Holders.{AreAcceptableOffers, IsAcceptableOffer}
use Rattle.reserved_seats.specs.Offers.{general, reserved}
use Rattle.reserved_seats.proofs.BothKinds.{both-general, both-reserved}
use Rattle.reserved_seats.proofs.Listing.{IsListed, general-listed, general-offered, reserved-listed, reserved-offered}
use Rattle.reserved_seats.proofs.Validity.{entries-within, list-at}

module _ (m : Problem) (r : Reservation) where
  abbrev rows : ℕ
  rows = length m.programmes

  -- ranks stay
  pub rank-same : (t i : ℕ) → rank_of (expanded m r) t i ≡ rank_of m t i
  unfolding rank_of ranks_of turn_of order_of expanded
  rank-same t i = refl

  -- both kinds of seats have the programme's type and its bar, and the general ones its quota
  pub kind-general : (p : ℕ) → p < rows → kind_of (expanded m r) p ≡ kind_of m p
  unfolding kind_of expanded
  kind-general p lt = ap (λ (g : Prog). g.kind) (both-general m.programmes r.seats p lt)

  pub kind-reserved : (p : ℕ) → p < rows → kind_of (expanded m r) (rows + p) ≡ kind_of m p
  unfolding kind_of expanded
  kind-reserved p lt = ap (λ (g : Prog). g.kind) (both-reserved m.programmes r.seats p lt)

  bar-general : (p : ℕ) → p < rows → bar_of (expanded m r) p ≡ bar_of m p
  unfolding bar_of expanded
  bar-general p lt = ap (λ (g : Prog). g.bar) (both-general m.programmes r.seats p lt)

  bar-reserved : (p : ℕ) → p < rows → bar_of (expanded m r) (rows + p) ≡ bar_of m p
  unfolding bar_of expanded
  bar-reserved p lt = ap (λ (g : Prog). g.bar) (both-reserved m.programmes r.seats p lt)

  pub quota-general : (p : ℕ) → p < rows → quota_of (expanded m r) p ≡ quota_of m p
  unfolding quota_of expanded
  quota-general p lt = ap (λ (g : Prog). g.quota) (both-general m.programmes r.seats p lt)

  -- so they admit whom the programme admits
  admits-same : (q p i : ℕ) → bar_of (expanded m r) q ≡ bar_of m p
      → kind_of (expanded m r) q ≡ kind_of m p → admits (expanded m r) q i ≡ admits m p i
  unfolding admits
  admits-same q p i bar kind =
      ap (λ b. admits_rank b (rank_of (expanded m r) (kind_of (expanded m r) q) i)) bar
      ∙ ap (λ t. admits_rank (bar_of m p) (rank_of (expanded m r) t i)) kind
      ∙ ap (admits_rank (bar_of m p)) (rank-same (kind_of m p) i)

  pub admits-general : (p i : ℕ) → p < rows → admits (expanded m r) p i ≡ admits m p i
  admits-general p i lt = admits-same p p i (bar-general p lt) (kind-general p lt)

  admits-reserved : (p i : ℕ) → p < rows → admits (expanded m r) (rows + p) i ≡ admits m p i
  admits-reserved p i lt = admits-same (rows + p) p i (bar-reserved p lt) (kind-reserved p lt)

  -- general seats are acceptable where the programme is
  general-acceptable : (i p : ℕ) → i < length m.lists → p < rows
      → IsAcceptableOffer m r i (general p) ↔ IsAcceptable m i p
  general-acceptable i p i_lt lt =
      let at = list-at m r i i_lt in
      let marked = is_marked r.marked i in (
        λ a. record {
          listed = general-listed rows marked p (list_of m i) lt (subst (IsListed p) at a.listed);
          admitted = sym (admits-general p i lt) ∙ a.admitted;
        },
        λ a. record {
          listed = subst (IsListed p) (sym at)
              (general-offered rows marked p (list_of m i) lt a.listed);
          admitted = admits-general p i lt ∙ a.admitted;
        },
      )

  -- a marked candidate is offered the reserved seats of each listed row
  marked-offered : IsValid m → (i p : ℕ) → i < length m.lists → is_marked r.marked i ≡ true
      → IsListed p (list_of m i) → IsListed (rows + p) (list_of (expanded m r) i)
  marked-offered v i p i_lt marked listed =
      let at = list-at m r i i_lt ∙ ap (λ b. offered_list rows b (list_of m i)) marked in
      subst (IsListed (rows + p)) (sym at)
      (reserved-offered rows p (list_of m i) (entries-within m r v i i_lt) listed)

  -- reserved seats are acceptable where the candidate is marked as well
  reserved-acceptable : IsValid m → (i p : ℕ) → i < length m.lists → p < rows
      → IsAcceptableOffer m r i (reserved p) ↔ (IsTrue (is_marked r.marked i) × IsAcceptable m i p)
  reserved-acceptable v i p i_lt lt = (
    λ a.
        let both = reserved-listed rows (is_marked r.marked i) p (list_of m i)
        (entries-within m r v i i_lt)
        (subst (IsListed (rows + p)) (list-at m r i i_lt) a.listed) in (
          both.0,
          record {
            listed = both.1;
            admitted = sym (admits-reserved p i lt) ∙ a.admitted;
          },
        ),
    λ (marked, a). record {
      listed = marked-offered v i p i_lt marked a.listed;
      admitted = admits-reserved p i lt ∙ a.admitted;
    },
  )

  -- so are offers
  pub offers-acceptable : IsValid m → AreAcceptableOffers m r
  offers-acceptable v = record { of_all = general-acceptable; of_marked = reserved-acceptable v }
