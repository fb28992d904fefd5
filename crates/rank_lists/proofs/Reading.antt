-- What reading a ranks file comes to: the duplicates among the rows that have no fault of their
-- own come first, then the row at which the gathering stopped; where there is neither, the file
-- has no fault, and the sorted ranks are its table.
use Rattle.std.proofs.Common.{◌≡◌, ℕ, ◌+◌, ◌<◌, ◌≤◌, List, [], length, map, take, refl, sym, ap, ◌∙◌, arith, subst, ⊎_elim, Option, Some, None, take_all, length-take-le}
use Rattle.std.specs.Prelude.{slice_index_or}
use Rattle.std.proofs.lemmas.Bool.{cases_lt}
use Rattle.std.proofs.lemmas.List.{length-map}
use Rattle.std.proofs.lemmas.Option.{slice_get_past}
use Rattle.place_base.specs.declared.fault.FileFault.{FileFault}
use Rattle.place_base.specs.declared.fault.FileKind.TheVariants.{Ranks}
use Rattle.record_files.specs.FirstFaults.{first_of, first_row_fault, row_fault, least_fault, duplicate_at}
use Rattle.record_files.specs.Form.{header_in}
use Rattle.record_files.specs.ReadTo.{AreRowsRead, AreRowsTaken}
use Rattle.record_files.specs.Rows.{Row, rows, data_rows}
use Rattle.record_files.specs.declared.reading.RowsRead.{RowsRead}
use Rattle.record_files.proofs.FirstFaultLemmas.{first_of-none, least_fault-found}
use Rattle.rank_lists.specs.Duplicates.{IsFirstDuplicate, duplicate_of}
use Rattle.rank_lists.specs.Growth.{HasRows, given_in}
use Rattle.rank_lists.specs.Groups.{candidate_group, rank_group}
use Rattle.rank_lists.specs.Repeats.{HasNoRepeat, IsFirstRepeat}
use Rattle.rank_lists.specs.Rows.{ranks_form, ranks_rules, own_rules, reading, ranks_fault, row_at}
use Rattle.rank_lists.specs.Table.{IsSound, table_with, ranks_table}
use Rattle.rank_lists.specs.Turns.{AreAllTurns, AreTurns, known_keys}
use Rattle.rank_lists.specs.declared.duplicates.Duplicate.{Duplicate}
use Rattle.rank_lists.specs.declared.duplicates.Duplicate.TheVariants.{Candidate, Rank}
use Rattle.rank_lists.specs.declared.keys.TheConstants.{INDEXES}
use Rattle.rank_lists.specs.declared.rows.RankRows.{RankRows}
use Rattle.rank_lists.proofs.FirstDuplicates.{clear-all, candidate-first, rank-first, read-fields, row_fault-at}
use Rattle.rank_lists.proofs.Gathering.{known-given}
use Rattle.rank_lists.proofs.RowGroups.{HasFields}
use Rattle.rank_lists.proofs.TableLemmas.{all-turns, table-is-sound}

-- where a row's own fault is there, it is the row's fault
first_of-behind : (a b c : Option FileFault) (f : FileFault) → first_of a (first_of b None) ≡ Some f
    → first_of a (first_of b c) ≡ Some f
first_of-behind (Some x) b c f h = h
first_of-behind None (Some x) c f h = h
first_of-behind None None c f h = absurd (cc)

module _ (names : List (List ℕ)) (numbers : List ℕ) (bytes : List ℕ) (read : RowsRead RankRows)
    (g : AreRowsTaken own_rules (first_row_fault ranks_form (rows bytes))
    (header_in ranks_form (rows bytes)) (λ version. HasRows names) (data_rows bytes) read) where
  abbrev body : List Row
  body = data_rows bytes

  -- as many numbers of each kind as rows
  pub same-length : length read.table.candidates ≡ length read.table.ranks
  same-length = ap length g.has.candidates ∙ length-map (take read.count body) candidate_group
      ∙ sym (length-map (take read.count body) rank_group) ∙ sym (ap length g.has.ranks)

  -- a row that repeats an earlier one has the first fault
  pub duplicate-first : (d : Duplicate)
      → IsFirstDuplicate read.table.candidates read.table.ranks (Some d)
      → ranks_fault bytes ≡ Some
      (duplicate_at Ranks (row_at body (duplicate_of d).0.later).0 (duplicate_of d).1
      (row_at body (duplicate_of d).0.earlier).0)
  duplicate-first (Candidate r) h =
      candidate-first bytes read.count g.within g.passed g.none r.earlier r.later
      (subst (λ xs. IsFirstRepeat xs r.earlier r.later) g.has.candidates h.0)
      (subst (λ xs. HasNoRepeat xs r.later) g.has.ranks h.1)
  duplicate-first (Rank r) h =
      rank-first bytes read.count g.within g.passed g.none r.earlier r.later
      (subst (λ xs. IsFirstRepeat xs r.earlier r.later) g.has.ranks h.0)
      (subst (λ xs. HasNoRepeat xs (r.later + 1)) g.has.candidates h.1)

  -- the rows of a duplicate are rows of the file
  pub duplicate-within : (d : Duplicate)
      → IsFirstDuplicate read.table.candidates read.table.ranks (Some d)
      → ((duplicate_of d).0.earlier < length body) × ((duplicate_of d).0.later < length body)
  duplicate-within (Candidate r) h =
      let size : length read.table.candidates ≡ read.count = ap length g.has.candidates
      ∙ length-map (take read.count body) candidate_group
      ∙ length-take-le read.count body g.within in
      let order = h.0.order in
      let within = h.0.within in
      let count = g.within in
      (omega arith, omega arith)
  duplicate-within (Rank r) h =
      let size : length read.table.ranks ≡ read.count = ap length g.has.ranks
      ∙ length-map (take read.count body) rank_group ∙ length-take-le read.count body g.within in
      let order = h.0.order in
      let within = h.0.within in
      let count = g.within in
      (omega arith, omega arith)

  module _ (h : IsFirstDuplicate read.table.candidates read.table.ranks None) where
    one-candidate : HasNoRepeat (map candidate_group (take read.count body))
        (length (map candidate_group (take read.count body)))
    one-candidate = subst (λ xs. HasNoRepeat xs (length xs)) g.has.candidates h.0

    one-rank : HasNoRepeat (map rank_group (take read.count body))
        (length (map rank_group (take read.count body)))
    one-rank = subst (λ xs. HasNoRepeat xs (length xs)) g.has.ranks h.1

    clear : least_fault (row_fault ranks_rules bytes) read.count ≡ None
    clear = clear-all bytes read.count g.within g.passed g.none one-candidate one-rank

    -- with no duplicate the fault at which reading stopped is the first
    pub stop-first : (f : FileFault) → read.fault ≡ Some f → ranks_fault bytes ≡ Some f
    stop-first f told = by (first_row_fault ranks_form (rows bytes)) refl (g.here ∙ told)
      where
        behind : row_fault own_rules bytes read.count ≡ Some f
            → (read.count < length body) × (row_fault ranks_rules bytes read.count ≡ Some f)
        behind own = ⊎_elim
            (λ (inside : read.count < length body). (
              inside,
              row_fault-at ranks_rules bytes read.count inside
                  ∙ first_of-behind _ (reading (row_at body read.count)) _ f
                  (sym (row_fault-at own_rules bytes read.count inside) ∙ own),
            ))
            (λ (past : length body ≤ read.count).
            let gone : row_fault own_rules bytes read.count ≡ None =
            rw (slice_get_past body read.count past) refl in
            absurd (cc))
            (cases_lt read.count (length body))

        by : (h : Option FileFault) → first_row_fault ranks_form (rows bytes) ≡ h
            → first_of h (row_fault own_rules bytes read.count) ≡ Some f
            → ranks_fault bytes ≡ Some f
        by (Some x) e stop = rw e stop
        by None e stop =
            let here = behind stop in
            rw e (least_fault-found (row_fault ranks_rules bytes) read.count (length body) f here.0
            clear here.1)

    module _ (clean : read.fault ≡ None) where
      all : read.count ≡ length body
      all = g.whole clean

      -- with no stop either the file has no fault
      pub no-fault : ranks_fault bytes ≡ None
      no-fault =
          rw (first_of-none (first_row_fault ranks_form (rows bytes)) _ (g.here ∙ clean)).0
          (subst (λ n. least_fault (row_fault ranks_rules bytes) n ≡ None) all clear)

      whole : take read.count body ≡ body
      whole = take_all read.count body (let count = all in omega arith)

      fields : (k : ℕ) → k < length body → HasFields (row_at body k)
      fields k lt =
          let count = all in
          read-fields bytes read.count g.within g.passed g.none k (omega arith)

      once-candidate : HasNoRepeat (map candidate_group body) (length body)
      once-candidate = subst (λ rows. HasNoRepeat (map candidate_group rows) (length rows)) whole
          (subst (λ n. HasNoRepeat (map candidate_group (take read.count body)) n)
          (length-map (take read.count body) candidate_group) one-candidate)

      once-rank : HasNoRepeat (map rank_group body) (length body)
      once-rank = subst (λ rows. HasNoRepeat (map rank_group rows) (length rows)) whole
          (subst (λ n. HasNoRepeat (map rank_group (take read.count body)) n)
          (length-map (take read.count body) rank_group) one-rank)

      module _ (few : length numbers ≤ INDEXES) where
        -- the sorted ranks are the table
        pub table-is : (orders ranks : List (List ℕ))
            → AreAllTurns numbers read.table.given.items orders ranks
            → (orders ≡ (ranks_table names numbers bytes).orders)
            × (ranks ≡ (ranks_table names numbers bytes).ranks)
        table-is orders ranks t =
            let types = g.has.types in
            let orders_size = t.orders_size in
            let ranks_size = t.ranks_size in
            all-turns names numbers body few fields once-candidate once-rank orders ranks
            (omega arith) (omega arith)
            (λ kind lt. subst (λ keys. AreTurns keys (slice_index_or orders kind [])
            (slice_index_or ranks kind []))
            (ap (known_keys numbers) (g.has.given kind lt ∙ ap (given_in names kind) whole)
            ∙ known-given names numbers kind body fields)
            (t.turns kind (omega arith)))

        -- and it is sound
        pub table-sound : IsSound (ranks_table names numbers bytes)
        table-sound = table-is-sound names numbers body few fields once-candidate once-rank

-- what is known where the rows were read and their duplicates looked for
module _ (names : List (List ℕ)) (numbers : List ℕ) (bytes : List ℕ) (read : RowsRead RankRows)
    (duplicate : Option Duplicate) (are : AreRowsRead own_rules bytes (λ version. HasRows names) read)
    (looked : IsFirstDuplicate read.table.candidates read.table.ranks duplicate) where
  -- a duplicate has the first fault
  pub fault-of-duplicate : (d : Duplicate) → duplicate ≡ Some d → ranks_fault bytes ≡ Some
      (duplicate_at Ranks (row_at (data_rows bytes) (duplicate_of d).0.later).0 (duplicate_of d).1
      (row_at (data_rows bytes) (duplicate_of d).0.earlier).0)
  fault-of-duplicate d e = duplicate-first names numbers bytes read are.taken d
      (subst (IsFirstDuplicate read.table.candidates read.table.ranks) e looked)

  -- and its rows are rows of the file
  pub rows-of-duplicate : (d : Duplicate) → duplicate ≡ Some d
      → ((duplicate_of d).0.earlier < length (data_rows bytes))
      × ((duplicate_of d).0.later < length (data_rows bytes))
  rows-of-duplicate d e = duplicate-within names numbers bytes read are.taken d
      (subst (IsFirstDuplicate read.table.candidates read.table.ranks) e looked)

  -- with none, the fault at which reading stopped is the first
  pub fault-of-stop : (f : FileFault) → duplicate ≡ None → read.fault ≡ Some f
      → ranks_fault bytes ≡ Some f
  fault-of-stop f none e = stop-first names numbers bytes read are.taken
      (subst (IsFirstDuplicate read.table.candidates read.table.ranks) none looked) f e

  -- with neither, the file has no fault, and the sorted ranks are its table, which is sound
  pub table-of-turns : (count : ℕ) (orders ranks : List (List ℕ)) → duplicate ≡ None
      → read.fault ≡ None → count ≡ length numbers → count ≤ INDEXES
      → AreAllTurns numbers read.table.given.items orders ranks
      → (ranks_fault bytes ≡ None)
      × (table_with count orders ranks ≡ ranks_table names numbers bytes)
      × IsSound (table_with count orders ranks)
  table-of-turns count orders ranks none clean size few t =
      let h = subst (IsFirstDuplicate read.table.candidates read.table.ranks) none looked in
      let small : length numbers ≤ INDEXES = omega arith in
      let parts = table-is names numbers bytes read are.taken h clean small orders ranks t in
      let same : table_with count orders ranks ≡ ranks_table names numbers bytes =
      λ j. table_with (size j) (parts.0 j) (parts.1 j) in (
        no-fault names numbers bytes read are.taken h clean,
        same,
        subst IsSound (sym same) (table-sound names numbers bytes read are.taken h clean small),
      )
