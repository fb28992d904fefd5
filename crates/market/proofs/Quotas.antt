-- A market with one quota changed: what is looked up in it, that it is valid, and that the tables of
-- the old one are its own, since no table knows of quotas.
use Rattle.std.proofs.Common.{◌≡◌, ◌≢◌, ℕ, ◌<◌, ◌≤◌, List, length, refl, sym, ap, ◌∙◌, subst, arith, set, map, ⊎_elim}
use Rattle.std.specs.Prelude.{filter, ◌==◌, ◌&&◌}
use Rattle.std.specs.List.{range_with_len}
use Rattle.std.proofs.lemmas.Bool.{cases_eq}
use Rattle.std.proofs.lemmas.List.{get_or-set_same, get_or-set_other, length-set, set-set, set-get_or}
use Rattle.market.specs.declared.programme.Prog.{Prog}
use Rattle.market.specs.declared.limits.TheConstants.{MAX_QUOTA}
use Rattle.market.specs.Counting.{count_below}
use Rattle.market.specs.Problems.{Problem, IsValid, IsBar, with_quota, programme_at, no_programme, kind_of, quota_of, bar_of, list_of, order_of, ranks_of, turn_of, rank_of, admits, admits_rank}
use Rattle.market.specs.Mechanism.{is_offered}
use Rattle.market.specs.Comparisons.{Widens}
use Rattle.market.specs.LocalNumbers.{programmes_of, local_of}
use Rattle.market.specs.FlatLists.{IsFlat}
use Rattle.market.specs.TypeLists.{HasTables, IsTypeLists, FlatTypeLists, type_lists_at, type_items, type_places, places_from}

module _ (m : Problem) (p quota : ℕ) (l : p < length m.programmes) where
  -- the programme itself has the new quota
  pub changed-at : programme_at (with_quota m p quota) p
      ≡ record (programme_at m p) { quota = quota }
  unfolding with_quota
  changed-at = get_or-set_same m.programmes p (record (programme_at m p) { quota = quota })
      no_programme l

  -- every other programme stays
  pub other-at : (q : ℕ) → q ≢ p → programme_at (with_quota m p quota) q ≡ programme_at m q
  unfolding with_quota
  other-at q ne = get_or-set_other m.programmes p q (record (programme_at m p) { quota = quota })
      no_programme ne

  -- what the quota does not bear on stays for every programme
  same-at : {A : Type 0} (f : Prog → A)
      → f (record (programme_at m p) { quota = quota }) ≡ f (programme_at m p) → (q : ℕ)
      → f (programme_at (with_quota m p quota) q) ≡ f (programme_at m q)
  same-at f e q =
      ⊎_elim
      (λ same.
      ap (λ (u : ℕ). f (programme_at (with_quota m p quota) u)) same ∙ ap f changed-at ∙ e
      ∙ ap (λ (u : ℕ). f (programme_at m u)) (sym same))
      (λ ne. ap f (other-at q ne))
      (cases_eq q p)

  -- the types
  pub kind-same : (q : ℕ) → kind_of (with_quota m p quota) q ≡ kind_of m q
  unfolding kind_of
  kind-same q = same-at (λ (x : Prog). x.kind) refl q

  -- the bars
  pub bar-same : (q : ℕ) → bar_of (with_quota m p quota) q ≡ bar_of m q
  unfolding bar_of
  bar-same q = same-at (λ (x : Prog). x.bar) refl q

  -- the quota that was given
  pub quota-changed : quota_of (with_quota m p quota) p ≡ quota
  unfolding quota_of
  quota-changed = ap (λ (x : Prog). x.quota) changed-at

  -- and those of the others
  pub quota-other : (q : ℕ) → q ≢ p → quota_of (with_quota m p quota) q ≡ quota_of m q
  unfolding quota_of
  quota-other q ne = ap (λ (x : Prog). x.quota) (other-at q ne)

  -- as many programmes
  length-same : length (with_quota m p quota).programmes ≡ length m.programmes
  unfolding with_quota
  length-same = length-set m.programmes p (record (programme_at m p) { quota = quota })

  -- all parts fit together as they did
  pub with_quota-valid : IsValid m → quota ≤ MAX_QUOTA → IsValid (with_quota m p quota)
  unfolding with_quota list_of order_of ranks_of
  with_quota-valid v few =
      let n = length-same in
      record {
        types = v.types;
        programmes = omega (arith, v.programmes);
        candidates = v.candidates;
        orders = v.orders;
        ranks = v.ranks;
        kinds = λ q lq. subst (λ (t : ℕ). t < m.types) (sym (kind-same q)) (v.kinds q (omega arith));
        quotas =
            λ q lq. ⊎_elim
            (λ same. let e = ap (quota_of (with_quota m p quota)) same ∙ quota-changed in
            omega arith)
            (λ ne. let e = quota-other q ne in let old = v.quotas q (omega arith) in omega arith)
            (cases_eq q p);
        bars = λ q lq. subst IsBar (sym (bar-same q)) (v.bars q (omega arith));
        list_lengths = v.list_lengths;
        list_entries = λ i k li lk. let e = v.list_entries i k li lk in omega arith;
        list_distinct = v.list_distinct;
        order_entries = v.order_entries;
        order_distinct = v.order_distinct;
        rank_lengths = v.rank_lengths;
        ranks_rise = v.ranks_rise;
        rank_limits = v.rank_limits;
      }

  -- the same programmes of each type
  members-same : (t : ℕ) → programmes_of (with_quota m p quota) t ≡ programmes_of m t
  unfolding programmes_of
  members-same t = λ i. filter (λ q. kind-same q i == t) (range_with_len 0 (length-same i))

  -- with the same numbers
  local-same : (q : ℕ) → local_of (with_quota m p quota) q ≡ local_of m q
  unfolding local_of
  local-same q = λ i. count_below (λ u. kind-same u i == kind-same q i) q

  -- admitting the same candidates
  pub admits-same : (q i : ℕ) → admits (with_quota m p quota) q i ≡ admits m q i
  unfolding with_quota admits rank_of ranks_of turn_of order_of
  admits-same q i = λ j. admits_rank (bar-same q j) (rank_of m (kind-same q j) i)

  -- and offered to the same turns
  offered-same : (t i q : ℕ) → is_offered (with_quota m p quota) t i q ≡ is_offered m t i q
  unfolding is_offered
  offered-same t i q = λ j. (kind-same q j == t) && admits-same q i j

  -- so the lists of each type are the same
  items-same : (t i : ℕ) → type_items (with_quota m p quota) t i ≡ type_items m t i
  unfolding with_quota type_items list_of
  items-same t i =
      λ j. map (λ q. local-same q j) (filter (λ q. offered-same t i q j) (list_of m i))

  places-same : (t i : ℕ) → type_places (with_quota m p quota) t i ≡ type_places m t i
  unfolding with_quota type_places list_of
  places-same t i = λ j. places_from (λ q. offered-same t i q j) 0 (list_of m i)

  type_lists-same : (t : ℕ) (f : FlatTypeLists) → IsTypeLists m t f
      → IsTypeLists (with_quota m p quota) t f
  unfolding with_quota order_of
  type_lists-same t f h =
      record {
        items =
            subst (λ (each : ℕ → List ℕ). IsFlat f.items f.bounds (map each (order_of m t)))
            (λ j i. sym (items-same t i) j) h.items;
        places =
            subst (λ (each : ℕ → List ℕ). IsFlat f.places f.bounds (map each (order_of m t)))
            (λ j i. sym (places-same t i) j) h.places;
      }

  -- and so are all tables
  pub tables-same : (tables by_type : List (List ℕ)) (numbers : List ℕ)
      (found : List FlatTypeLists) → HasTables m tables by_type numbers found
      → HasTables (with_quota m p quota) tables by_type numbers found
  unfolding with_quota order_of
  tables-same tables by_type numbers found h =
      record {
        turns = record { count = h.turns.count; each = h.turns.each };
        members = record {
          count = h.members.count;
          each = λ t lt. h.members.each t lt ∙ sym (members-same t);
        };
        locals = record {
          count = h.locals.count ∙ sym length-same;
          each =
              λ q lq. let n = length-same in
              h.locals.each q (omega arith) ∙ sym (local-same q);
        };
        type_lists = record {
          count = h.type_lists.count;
          each = λ t lt. type_lists-same t (type_lists_at found t) (h.type_lists.each t lt);
        };
      }

  -- a market is widened by a larger quota
  pub with_quota-widens : quota_of m p ≤ quota → Widens m (with_quota m p quota)
  unfolding with_quota
  with_quota-widens more =
      record {
        types = refl;
        lists = refl;
        orders = refl;
        ranks = refl;
        kinds = kind-same;
        bars = bar-same;
        quotas =
            λ q. ⊎_elim
            (λ same.
            let old = ap (quota_of m) same in
            let e = ap (quota_of (with_quota m p quota)) same ∙ quota-changed in
            omega arith)
            (λ ne. let e = quota-other q ne in omega arith)
            (cases_eq q p);
      }

  -- of two changes the later one stands
  pub with_quota-again : (later : ℕ)
      → with_quota (with_quota m p quota) p later ≡ with_quota m p later
  unfolding with_quota
  with_quota-again later =
      let ps = m.programmes in
      let first = record (programme_at m p) { quota = quota } in
      let again = ap (λ (x : Prog). set (set ps p first) p (record x { quota = later })) changed-at
      ∙ set-set ps p first (record (programme_at m p) { quota = later }) in
      λ i. record m { programmes = again i }

-- a quota that is given again changes nothing
pub with_quota-own : (m : Problem) (p : ℕ) → with_quota m p (quota_of m p) ≡ m
unfolding with_quota quota_of
with_quota-own m p = λ i. record m { programmes = set-get_or m.programmes p no_programme i }
