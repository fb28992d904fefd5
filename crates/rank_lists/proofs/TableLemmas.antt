-- The table of rows that have no fault: its orders hold distinct candidates, and the ranks beside
-- them rise strictly. Sorted keys give just this table.
use Rattle.std.proofs.Common.{◌≡◌, ℕ, ◌/◌, ◌%◌, ◌<◌, ◌≤◌, List, [], length, map, sym, ap, ◌∙◌, arith, subst, zero-add, ⊎_elim}
use Rattle.std.specs.Prelude.{slice_index, slice_index_or}
use Rattle.std.proofs.lemmas.Bool.{cases_lt}
use Rattle.std.proofs.lemmas.List.{get_or-map, length-map, same_lists, get_or_default}
use Rattle.std.proofs.lemmas.List.FromFn.{get_or-map-range_with_len, length-map-range_with_len}
use Rattle.market.specs.Problems.{HasNoRepeats}
use Rattle.record_files.specs.Rows.{Row}
use Rattle.rank_lists.specs.declared.keys.TheConstants.{INDEXES}
use Rattle.place_base.specs.declared.limits.TheConstants.{LARGEST_RANK}
use Rattle.rank_lists.specs.Groups.{candidate_group, rank_group}
use Rattle.rank_lists.specs.Table.{Standing, standings, in_type, by_rank, turns_of, ranks_of, RankTable, table_of, order_at, ranks_at}
use Rattle.rank_lists.specs.Clean.{standing_key}
use Rattle.rank_lists.specs.Repeats.{HasNoRepeat, HasUnequalNeighbours}
use Rattle.rank_lists.specs.Rows.{row_at}
use Rattle.rank_lists.specs.Table.{IsSound}
use Rattle.rank_lists.specs.Turns.{AreTurns}
use Rattle.rank_lists.proofs.CleanRows.{copies-once}
use Rattle.market.proofs.Copies.{Rises, copies, copies-twice}
use Rattle.rank_lists.proofs.NoCopies.{copies-differ}
use Rattle.rank_lists.proofs.Ranking.{Comes-candidate, candidates-once, ranks-once, standings-Each}
use Rattle.rank_lists.proofs.RowGroups.{HasFields}
use Rattle.rank_lists.proofs.Standings.{Each, Each-at, AreSmall, copies-sorted, keys-candidates, keys-ranks, sorted, sorted-AreSmall, sorted-Each, sorted-Rises, sorted-keys}
use Rattle.rank_lists.proofs.TurnOrder.{by_rank-sorted}

-- the ranks of sorted keys rise
ranks-rise : (sorted ranks : List ℕ) → ranks ≡ map (λ key. key / INDEXES) sorted → Rises sorted
    → Rises ranks
ranks-rise sorted ranks e up i j le lt =
    let size = length-map sorted (λ key. key / INDEXES) in
    let whole = ap length e in
    let keys : slice_index sorted i ≤ slice_index sorted j = up i j le (omega arith) in
    let first : slice_index ranks i ≡ slice_index sorted i / INDEXES =
    ap (λ all. slice_index all i) e
    ∙ get_or-map (λ key. key / INDEXES) sorted i 0 0 (omega arith) in
    let second : slice_index ranks j ≡ slice_index sorted j / INDEXES =
    ap (λ all. slice_index all j) e
    ∙ get_or-map (λ key. key / INDEXES) sorted j 0 0 (omega arith) in
    omega arith

module _ (names : List (List ℕ)) (numbers : List ℕ) (rows : List Row)
    (few : length numbers ≤ INDEXES) where
  abbrev all : List Standing
  all = standings names numbers rows

  abbrev table : RankTable
  table = table_of (length names) (length numbers) all

  abbrev sorted_in : ℕ → List Standing
  sorted_in kind = sorted (in_type kind all)

  small : (kind : ℕ) → AreSmall (in_type kind all)
  small kind = standings-Each names numbers (λ s. s.candidate < INDEXES) kind rows
      (λ k s lt c. let below : s.candidate < length numbers =
      Comes-candidate names numbers (row_at rows k) s c in omega arith)

  -- the candidates and the ranks of the standings sorted by rank
  abbrev order_in : ℕ → List ℕ
  order_in kind = map (λ s. s.candidate) (sorted_in kind)

  abbrev ranks_in : ℕ → List ℕ
  ranks_in kind = map (λ s. s.rank) (sorted_in kind)

  orders-size : length table.orders ≡ length names
  orders-size = length-map-range_with_len (turns_of all) 0 (length names)

  ranks-size : length table.ranks ≡ length names
  ranks-size = length-map-range_with_len (ranks_of all) 0 (length names)

  -- two columns that have the same in each type
  same-column : (column other : List (List ℕ)) (in_kind : ℕ → List ℕ)
      → length column ≡ length names → length other ≡ length names
      → ((kind : ℕ) → kind < length names → slice_index_or column kind [] ≡ in_kind kind)
      → ((kind : ℕ) → kind < length names → slice_index_or other kind [] ≡ in_kind kind)
      → column ≡ other
  same-column column other in_kind size size' here there =
      same_lists column other (omega arith) (λ kind d lt.
      get_or_default column kind d [] lt ∙ here kind (omega arith)
      ∙ sym (there kind (omega arith)) ∙ get_or_default other kind [] d (omega arith))

  -- the turns of a type are its standings by rising rank
  turns-are : (kind : ℕ) (order ranks : List ℕ)
      → AreTurns (map standing_key (in_type kind all)) order ranks
      → (order ≡ order_in kind) × (ranks ≡ ranks_in kind)
  turns-are kind order ranks t =
      let same : t.sorted ≡ map standing_key (sorted_in kind) =
      sorted-keys (in_type kind all) t.sorted (small kind) t.permutation t.rises in
      let fits = sorted-AreSmall (in_type kind all) (small kind) in (
        t.order_is ∙ ap (map (λ key. key % INDEXES)) same ∙ keys-candidates (sorted_in kind) fits,
        t.ranks_are ∙ ap (map (λ key. key / INDEXES)) same ∙ keys-ranks (sorted_in kind) fits,
      )

  -- where no candidate stands behind two keys of a type, none has two standings in it
  pub once-candidate : (kind x : ℕ)
      → HasNoRepeats (map (λ key. key % INDEXES) (map standing_key (in_type kind all)))
      → copies x (map (λ s. s.candidate) (in_type kind all)) ≤ 1
  once-candidate kind x h =
      copies-once x (map (λ s. s.candidate) (in_type kind all))
      (subst HasNoRepeats (keys-candidates (in_type kind all) (small kind)) h)

  -- where no two neighbours of its ranks in turn order are equal, no rank has two standings in it
  pub once-rank : (kind x : ℕ) (order ranks : List ℕ)
      → AreTurns (map standing_key (in_type kind all)) order ranks
      → HasUnequalNeighbours ranks (length ranks)
      → copies x (map (λ s. s.rank) (in_type kind all)) ≤ 1
  once-rank kind x order ranks t differ =
      let same : ranks ≡ ranks_in kind = (turns-are kind order ranks t).1 in
      let kept : copies x (ranks_in kind) ≡ copies x (map (λ s. s.rank) (in_type kind all)) =
      copies-sorted (λ s. s.rank) x (in_type kind all) in
      let once : copies x ranks ≤ 1 =
      copies-differ x ranks (ranks-rise t.sorted ranks t.ranks_are t.rises) differ in
      omega (arith, ap (copies x) same)

  module _ (fields : (k : ℕ) → k < length rows → HasFields (row_at rows k))
      (one_candidate : HasNoRepeat (map candidate_group rows) (length rows))
      (one_rank : HasNoRepeat (map rank_group rows) (length rows)) where
    -- a standing within the limits
    record IsGood (s : Standing) : Type 0 where
      candidate : s.candidate < length numbers
      low : 1 ≤ s.rank
      high : s.rank ≤ LARGEST_RANK

    good : (kind : ℕ) → Each IsGood (sorted_in kind)
    good kind = sorted-Each IsGood (in_type kind all)
        (standings-Each names numbers IsGood kind rows (λ k s lt c.
        let f = fields k lt in
        let rank = c.rank in
        let low = f.low in
        let high = f.rank in
        record {
          candidate = Comes-candidate names numbers (row_at rows k) s c;
          low = omega arith;
          high = omega arith;
        }))

    first : Standing
    first = record { kind = 0; candidate = 0; rank = 0 }

    good-at : (kind k : ℕ) → k < length (sorted_in kind)
        → IsGood (slice_index_or (sorted_in kind) k first)
    good-at kind k lt = Each-at IsGood (sorted_in kind) (good kind) k first lt

    candidate-at : (kind k : ℕ) → k < length (sorted_in kind)
        → slice_index (order_in kind) k ≡ (slice_index_or (sorted_in kind) k first).candidate
    candidate-at kind k lt = get_or-map (λ s. s.candidate) (sorted_in kind) k first 0 lt

    rank-at : (kind k : ℕ) → k < length (sorted_in kind)
        → slice_index (ranks_in kind) k ≡ (slice_index_or (sorted_in kind) k first).rank
    rank-at kind k lt = get_or-map (λ s. s.rank) (sorted_in kind) k first 0 lt

    key-at : (kind k : ℕ) → k < length (sorted_in kind)
        → slice_index (map standing_key (sorted_in kind)) k
        ≡ standing_key (slice_index_or (sorted_in kind) k first)
    key-at kind k lt = get_or-map standing_key (sorted_in kind) k first 0 lt

    distinct : (kind : ℕ) → HasNoRepeats (order_in kind)
    distinct kind i j below lt same =
        let x = slice_index (order_in kind) j in
        let twice : 2 ≤ copies x (order_in kind) =
        copies-twice (order_in kind) i j below lt same in
        let kept : copies x (order_in kind)
        ≡ copies x (map (λ s. s.candidate) (in_type kind all)) =
        copies-sorted (λ s. s.candidate) x (in_type kind all) in
        let once : copies x (map (λ s. s.candidate) (in_type kind all)) ≤ 1 =
        candidates-once names numbers kind x rows one_candidate in
        omega arith

    distinct-ranks : (kind : ℕ) → HasNoRepeats (ranks_in kind)
    distinct-ranks kind i j below lt same =
        let x = slice_index (ranks_in kind) j in
        let twice : 2 ≤ copies x (ranks_in kind) =
        copies-twice (ranks_in kind) i j below lt same in
        let kept : copies x (ranks_in kind) ≡ copies x (map (λ s. s.rank) (in_type kind all)) =
        copies-sorted (λ s. s.rank) x (in_type kind all) in
        let once : copies x (map (λ s. s.rank) (in_type kind all)) ≤ 1 =
        ranks-once names numbers kind x rows one_rank in
        omega arith

    rise : (kind j k : ℕ) → j < k → k < length (ranks_in kind)
        → slice_index (ranks_in kind) j < slice_index (ranks_in kind) k
    rise kind j k below lt =
        let size = length-map (sorted_in kind) (λ s. s.rank) in
        let keys_size = length-map (sorted_in kind) standing_key in
        let low = (good-at kind j (omega arith)).candidate in
        let high = (good-at kind k (omega arith)).candidate in
        let keys : slice_index (map standing_key (sorted_in kind)) j ≤ slice_index
        (map standing_key (sorted_in kind)) k =
        sorted-Rises (in_type kind all) (small kind) j k (omega arith) (omega arith) in
        let key_j = key-at kind j (omega arith) in
        let key_k = key-at kind k (omega arith) in
        let rank_j = rank-at kind j (omega arith) in
        let rank_k = rank-at kind k (omega arith) in
        ⊎_elim
        (λ (less : slice_index (ranks_in kind) j < slice_index (ranks_in kind) k). less)
        (λ (more : slice_index (ranks_in kind) k ≤ slice_index (ranks_in kind) j).
        absurd (distinct-ranks kind j k below lt (omega arith)))
        (cases_lt (slice_index (ranks_in kind) j) (slice_index (ranks_in kind) k))

    -- in a type the standings of the turns are those sorted by rank
    turns-sorted : (kind : ℕ) → by_rank (in_type kind all) ≡ sorted_in kind
    turns-sorted kind = by_rank-sorted (in_type kind all) (rise kind) first

    order-at : (kind : ℕ) → kind < length names → order_at table kind ≡ order_in kind
    order-at kind lt = get_or-map-range_with_len (turns_of all) 0 (length names) kind kind [] lt
        (zero-add kind) ∙ ap (map (λ s. s.candidate)) (turns-sorted kind)

    ranks-at : (kind : ℕ) → kind < length names → ranks_at table kind ≡ ranks_in kind
    ranks-at kind lt = get_or-map-range_with_len (ranks_of all) 0 (length names) kind kind [] lt
        (zero-add kind) ∙ ap (map (λ s. s.rank)) (turns-sorted kind)

    -- the turns of all types are the table
    pub all-turns : (orders ranks : List (List ℕ)) → length orders ≡ length names
        → length ranks ≡ length names
        → ((kind : ℕ) → kind < length names → AreTurns (map standing_key (in_type kind all))
        (slice_index_or orders kind []) (slice_index_or ranks kind []))
        → (orders ≡ table.orders) × (ranks ≡ table.ranks)
    all-turns orders ranks orders_here ranks_here turns =
        let are = λ (kind : ℕ) (lt : kind < length names). turns-are kind
        (slice_index_or orders kind []) (slice_index_or ranks kind []) (turns kind lt) in (
          same-column orders table.orders order_in orders_here orders-size
              (λ kind lt. (are kind lt).0) order-at,
          same-column ranks table.ranks ranks_in ranks_here ranks-size
              (λ kind lt. (are kind lt).1) ranks-at,
        )

    -- the table meets what a market asks
    pub table-is-sound : IsSound table
    table-is-sound =
        let whole = orders-size in
        let whole' = ranks-size in
        record {
          types = omega arith;
          beside = λ kind lt. rw (ranks-at kind (omega arith), order-at kind (omega arith))
              (length-map (sorted_in kind) (λ s. s.rank)
              ∙ sym (length-map (sorted_in kind) (λ s. s.candidate)));
          entries = λ kind k lt. rw (order-at kind (omega arith)) (λ within.
              let size = length-map (sorted_in kind) (λ s. s.candidate) in
              let here = candidate-at kind k (omega arith) in
              let below = (good-at kind k (omega arith)).candidate in
              omega arith);
          distinct = λ kind lt. rw (order-at kind (omega arith)) (distinct kind);
          rise = λ kind j k lt below. rw (ranks-at kind (omega arith)) (rise kind j k below);
          limits = λ kind k lt. rw (ranks-at kind (omega arith)) (λ within.
              let size = length-map (sorted_in kind) (λ s. s.rank) in
              let here = rank-at kind k (omega arith) in
              let low = (good-at kind k (omega arith)).low in
              let high = (good-at kind k (omega arith)).high in
              (omega arith, omega arith));
        }
