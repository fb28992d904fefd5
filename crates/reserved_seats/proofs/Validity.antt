-- The expanded market is valid.
use Rattle.std.proofs.Common.{◌≡◌, ℕ, ◌+◌, ◌<◌, ◌≤◌, [], length, sym, ap, subst, arith, zero-add}
use Rattle.std.specs.Prelude.{All, slice_index, slice_index_or}
use Rattle.std.proofs.lemmas.List.Elements.{All-from_get_or, All-get_or}
use Rattle.std.proofs.lemmas.List.FromFn.{get_or-map-range_with_len, length-map-range_with_len}
use Rattle.place_base.specs.declared.limits.TheConstants.{MOST_PROGRAMMES}
use Rattle.market.specs.declared.limits.TheConstants.{MAX_CANDIDATES, MAX_QUOTA}
use Rattle.market.specs.Problems.{Problem, IsValid, IsBar, HasNoRepeats, kind_of, quota_of, bar_of, list_of, order_of, ranks_of}
use Rattle.reserved_seats.specs.Reservations.{Reservation, AreWithinQuota, is_marked}
use Rattle.reserved_seats.specs.Expansion.{FitsMarket, expanded, offered_list}
use Rattle.reserved_seats.proofs.BothKinds.{both-each, length-both}
use Rattle.reserved_seats.proofs.OfferedLists.{length-offered, offered-distinct, offered-within}

module _ (m : Problem) (r : Reservation) where
  abbrev rows : ℕ
  rows = length m.programmes

  -- as many candidates
  pub length-lists : length (expanded m r).lists ≡ length m.lists
  unfolding expanded
  length-lists = length-map-range_with_len
      (λ i. offered_list rows (is_marked r.marked i) (slice_index_or m.lists i [])) 0
      (length m.lists)

  -- twice as many programmes
  pub length-programmes : length (expanded m r).programmes ≡ rows + rows
  unfolding expanded
  length-programmes = length-both m.programmes r.seats

  -- the list of a candidate is that over offers
  pub list-at : (i : ℕ) → i < length m.lists
      → list_of (expanded m r) i ≡ offered_list rows (is_marked r.marked i) (list_of m i)
  unfolding list_of expanded
  list-at i lt = get_or-map-range_with_len
      (λ i. offered_list rows (is_marked r.marked i) (slice_index_or m.lists i [])) 0
      (length m.lists) i i [] lt (zero-add i)

  -- the entries of a valid list are rows
  pub entries-within : IsValid m → (i : ℕ) → i < length m.lists → All (λ p. p < rows) (list_of m i)
  entries-within v i lt =
      All-from_get_or (λ p. p < rows) (list_of m i) 0 (λ k inside. v.list_entries i k lt inside)

  kinds-within : IsValid m → (q : ℕ) → q < length (expanded m r).programmes
      → kind_of (expanded m r) q < m.types
  unfolding kind_of expanded
  kinds-within v = both-each m.programmes r.seats (λ g. g.kind < m.types) v.kinds v.kinds

  quotas-within : IsValid m → FitsMarket m r → AreWithinQuota r.seats
      → (q : ℕ) → q < length (expanded m r).programmes → quota_of (expanded m r) q ≤ MAX_QUOTA
  unfolding quota_of expanded
  quotas-within v fit limit = both-each m.programmes r.seats (λ g. g.quota ≤ MAX_QUOTA) v.quotas
      (λ p lt. limit p (let same = fit.seats in omega arith))

  bars-within : IsValid m → (q : ℕ) → q < length (expanded m r).programmes
      → IsBar (bar_of (expanded m r) q)
  unfolding bar_of expanded
  bars-within v = both-each m.programmes r.seats (λ g. IsBar g.bar) v.bars v.bars

  -- so the market is valid
  pub expanded-valid : IsValid m → FitsMarket m r → AreWithinQuota r.seats → IsValid (expanded m r)
  unfolding expanded order_of ranks_of
  expanded-valid v fit limit =
      let n = length-lists in
      let p_n = length-programmes in
      let few : rows ≤ MOST_PROGRAMMES = fit.programmes in
      record {
        types = v.types;
        programmes = omega arith;
        candidates = subst (λ k. k ≤ MAX_CANDIDATES) (sym n) v.candidates;
        orders = v.orders;
        ranks = v.ranks;
        kinds = kinds-within v;
        quotas = quotas-within v fit limit;
        bars = bars-within v;
        list_lengths = λ i lt.
            let at = list-at i (omega arith) in
            let size = ap (λ xs. length {A = ℕ} xs) at in
            let twice = length-offered rows (is_marked r.marked i) (list_of m i) in
            let short = fit.entries i (omega arith) in
            omega arith;
        list_entries = λ i k lt inside.
            let at = list-at i (omega arith) in
            let size = ap (λ xs. length {A = ℕ} xs) at in
            let below = All-get_or (λ q. q < rows + rows)
            (offered_list rows (is_marked r.marked i) (list_of m i)) k 0 (omega arith)
            (offered-within rows (is_marked r.marked i) (list_of m i)
            (entries-within v i (omega arith))) in
            let value = ap (λ xs. slice_index xs k) at in
            omega arith;
        list_distinct = λ i lt. subst HasNoRepeats (sym (list-at i (omega arith)))
            (offered-distinct rows (is_marked r.marked i) (list_of m i)
            (entries-within v i (omega arith)) (v.list_distinct i (omega arith)));
        order_entries = λ t k lt inside.
            let below = v.order_entries t k lt inside in
            omega arith;
        order_distinct = v.order_distinct;
        rank_lengths = v.rank_lengths;
        ranks_rise = v.ranks_rise;
        rank_limits = v.rank_limits;
      }
