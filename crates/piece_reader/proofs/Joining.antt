-- Adding rows to a table one after the other: as long as none is wrong beside those before it the
-- table has them all, and the first that is wrong has the file's first fault, where no row is wrong
-- by itself.
use Rattle.std.proofs.Common.{◌≡◌, ℕ, zero, suc, ◌+◌, ◌<◌, ◌≤◌, List, [], ◌∷◌, ◌++◌, None, Option, Some, length, take, refl, sym, ap, ◌∙◌, arith, append_assoc, length-append, length-take-le, subst, take_all}
use Rattle.std.specs.Bool.{⊤}
use Rattle.std.specs.List.{AllZip, flat_map}
use Rattle.std.specs.Prelude.{option_and_then, slice_index_or}
use Rattle.std.proofs.lemmas.List.{append-nil, take_more}
use Rattle.std.proofs.lemmas.Option.{slice_get-get_or}
use Rattle.place_base.specs.declared.fault.FileFault.{FileFault}
use Rattle.record_files.specs.FirstFaults.{FileRules, fault_behind, first_fault, first_of, first_row_fault, least_fault, row_fault}
use Rattle.record_files.specs.Form.{header_in, version_in}
use Rattle.record_files.specs.ReadTo.{IsRowTaken}
use Rattle.record_files.specs.Rows.{Row, data_rows, rows}
use Rattle.piece_reader.specs.Ahead.{IsClean}
use Rattle.piece_reader.specs.Joined.{by_themselves, meanings}
use Rattle.piece_reader.specs.declared.ahead_rows.AheadRows.{AheadRows}
use Rattle.piece_reader.proofs.CleanParts.{clean-means}

first_of-assoc : (a b c : Option FileFault) → first_of a (first_of b c) ≡ first_of (first_of a b) c
first_of-assoc None b c = refl
first_of-assoc (Some fault) b c = refl

first_of-last : (a : Option FileFault) → first_of a None ≡ a
first_of-last None = refl
first_of-last (Some fault) = refl

-- what is wrong with some rows and more behind them
pub meanings-append : (rules : FileRules) (version : ℕ) (earlier rows more : List Row)
    → meanings rules version earlier (rows ++ more)
    ≡ first_of (meanings rules version earlier rows)
    (meanings rules version (earlier ++ rows) more)
meanings-append rules version earlier [] more =
    ap (λ (all : List Row). meanings rules version all more) (sym (append-nil earlier))
meanings-append rules version earlier (row ∷ rows) more =
    let later = meanings-append rules version (earlier ++ row ∷ []) rows more in
    let same : (earlier ++ row ∷ []) ++ rows ≡ earlier ++ row ∷ rows =
    append_assoc earlier (row ∷ []) rows in
    let here = meanings rules version (earlier ++ row ∷ []) rows in
    ap (first_of (rules.meaning version earlier row))
    (later ∙ ap (λ (all : List Row). first_of here (meanings rules version all more)) same)
    ∙ first_of-assoc (rules.meaning version earlier row) here
    (meanings rules version (earlier ++ row ∷ rows) more)

module _ {A T : Type 0} (rules : FileRules) (version : ℕ) (keeps : Row → A → Type 0)
    (has : List Row → T → Type 0) where
  -- the first of some rows are in the table, and these were kept of the others
  pub record AddsTo (earlier rows : List Row) (table : T) (left : List A) : Type 0 where
    pub done : List Row
    pub after : List Row
    pub behind : rows ≡ done ++ after
    pub kept : AllZip keeps after left
    pub none : meanings rules version earlier done ≡ None
    pub has_rows : has (earlier ++ done) table

  -- before the first of the rows the table has the earlier ones
  pub AddsTo-begin : (earlier rows : List Row) (table : T) (left : List A) → has earlier table
      → AllZip keeps rows left → AddsTo earlier rows table left
  AddsTo-begin earlier rows table left here kept = record {
    done = [];
    after = rows;
    behind = refl;
    kept = kept;
    none = refl;
    has_rows = subst (λ all. has all table) (sym (append-nil earlier)) here;
  }

  -- what adding a row comes to
  abbrev pub Takes : T → A → T → Option FileFault → Type 0
  Takes table one new found = (before : List Row) (row : Row) → has before table → keeps row one
      → IsRowTaken (rules.meaning version before row) (has before new)
      (has (before ++ row ∷ []) new) found

  module _ (earlier rows : List Row) (table new : T) (one : A) (left : List A) where
    -- a row with which nothing is wrong is one more in the table
    pub AddsTo-next : AddsTo earlier rows table (one ∷ left) → Takes table one new None
        → AddsTo earlier rows new left
    AddsTo-next a takes = by a.done a.after a.behind a.kept a.none a.has_rows
      where
        by : (done after : List Row) → rows ≡ done ++ after → AllZip keeps after (one ∷ left)
            → meanings rules version earlier done ≡ None → has (earlier ++ done) table
            → AddsTo earlier rows new left
        by done [] behind kept none here = absurd kept
        by done (row ∷ after) behind kept none here =
            let told = takes (earlier ++ done) row here kept.0 in
            record {
              done = done ++ row ∷ [];
              after = after;
              behind = behind ∙ sym (append_assoc done (row ∷ []) after);
              kept = kept.1;
              none = meanings-append rules version earlier done (row ∷ [])
                  ∙ rw (none, told.0) refl;
              has_rows = subst (λ all. has all new) (append_assoc earlier done (row ∷ [])) told.1;
            }

    -- what is wrong with the next row is the first thing wrong with any of them
    pub AddsTo-stops : (f : FileFault) → AddsTo earlier rows table (one ∷ left)
        → Takes table one new (Some f) → meanings rules version earlier rows ≡ Some f
    AddsTo-stops f a takes = by a.done a.after a.behind a.kept a.none a.has_rows
      where
        by : (done after : List Row) → rows ≡ done ++ after → AllZip keeps after (one ∷ left)
            → meanings rules version earlier done ≡ None → has (earlier ++ done) table
            → meanings rules version earlier rows ≡ Some f
        by done [] behind kept none here = absurd kept
        by done (row ∷ after) behind kept none here =
            let told = takes (earlier ++ done) row here kept.0 in
            ap (meanings rules version earlier) behind
            ∙ meanings-append rules version earlier done (row ∷ after)
            ∙ rw (none, told.0) refl

    -- the next row stands below the limit
    pub AddsTo-below : (most : ℕ) → length earlier + length rows ≤ most
        → (a : AddsTo earlier rows table (one ∷ left)) → length (earlier ++ a.done) < most
    AddsTo-below most few a = by a.done a.after a.behind a.kept
      where
        by : (done after : List Row) → rows ≡ done ++ after → AllZip keeps after (one ∷ left)
            → length (earlier ++ done) < most
        by done [] behind kept = absurd kept
        by done (row ∷ after) behind kept = omega (
          arith,
          length-append earlier done,
          length-append done (row ∷ after),
          ap length behind,
        )

  -- where none is left nothing is wrong with any of them, and the table has them all
  pub AddsTo-ends : (earlier rows : List Row) (table : T) → AddsTo earlier rows table []
      → (meanings rules version earlier rows ≡ None) × has (earlier ++ rows) table
  AddsTo-ends earlier rows table a = by a.done a.after a.behind a.kept a.none a.has_rows
    where
      by : (done after : List Row) → rows ≡ done ++ after → AllZip keeps after []
          → meanings rules version earlier done ≡ None → has (earlier ++ done) table
          → (meanings rules version earlier rows ≡ None) × has (earlier ++ rows) table
      by done [] behind kept none here =
          let whole : done ≡ rows = sym (append-nil done) ∙ sym behind in (
            subst (λ all. meanings rules version earlier all ≡ None) whole none,
            subst (λ all. has (earlier ++ all) table) whole here,
          )
      by done (row ∷ after) behind kept none here = absurd kept

  -- the rows of the first parts are in the table, and these were kept of those of the others
  pub record JoinsParts (all : List Row) (table : T) (left : List (AheadRows A T)) : Type 0 where
    pub done : List Row
    pub lists : List (List Row)
    pub behind : all ≡ done ++ flat_map (λ rows. rows) lists
    pub kept : AllZip (λ rows (part : AheadRows A T). AllZip keeps rows part.rows.items) lists
        left
    pub none : meanings rules version [] done ≡ None
    pub has_rows : has done table

  -- before the first of the parts the table has no row
  pub JoinsParts-begin : (all : List Row) (lists : List (List Row)) (table : T)
      (left : List (AheadRows A T)) → flat_map (λ rows. rows) lists ≡ all → has [] table
      → AllZip (λ rows (part : AheadRows A T). AllZip keeps rows part.rows.items) lists left
      → JoinsParts all table left
  JoinsParts-begin all lists table left whole here kept = record {
    done = [];
    lists = lists;
    behind = sym whole;
    kept = kept;
    none = refl;
    has_rows = here;
  }

  -- what adding the rows of a part comes to
  abbrev pub TakesPart : T → AheadRows A T → T → Option FileFault → Type 0
  TakesPart table part new found = (earlier : List Row) (more : List Row) → has earlier table
      → AllZip keeps more part.rows.items
      → IsRowTaken (meanings rules version earlier more) ⊤ (has (earlier ++ more) new) found

  module _ (all : List Row) (table new : T) (part : AheadRows A T)
      (left : List (AheadRows A T)) where
    -- a part with which nothing is wrong is one more in the table
    pub JoinsParts-next : JoinsParts all table (part ∷ left) → TakesPart table part new None
        → JoinsParts all new left
    JoinsParts-next p takes = by p.lists p.behind p.kept
      where
        by : (lists : List (List Row)) → all ≡ p.done ++ flat_map (λ rows. rows) lists
            → AllZip (λ rows (part : AheadRows A T). AllZip keeps rows part.rows.items) lists
            (part ∷ left)
            → JoinsParts all new left
        by [] behind kept = absurd kept
        by (rows ∷ lists) behind kept =
            let told = takes p.done rows p.has_rows kept.0 in
            record {
              done = p.done ++ rows;
              lists = lists;
              behind = behind ∙ sym (append_assoc p.done rows (flat_map (λ rows. rows) lists));
              kept = kept.1;
              none = meanings-append rules version [] p.done rows ∙ rw (p.none, told.0) refl;
              has_rows = told.1;
            }

    -- what is wrong with the next part is the first thing wrong with any of them
    pub JoinsParts-stops : (f : FileFault) → JoinsParts all table (part ∷ left)
        → TakesPart table part new (Some f) → meanings rules version [] all ≡ Some f
    JoinsParts-stops f p takes = by p.lists p.behind p.kept
      where
        by : (lists : List (List Row)) → all ≡ p.done ++ flat_map (λ rows. rows) lists
            → AllZip (λ rows (part : AheadRows A T). AllZip keeps rows part.rows.items) lists
            (part ∷ left)
            → meanings rules version [] all ≡ Some f
        by [] behind kept = absurd kept
        by (rows ∷ lists) behind kept =
            let told = takes p.done rows p.has_rows kept.0 in
            ap (meanings rules version []) behind
            ∙ meanings-append rules version [] p.done (rows ++ flat_map (λ rows. rows) lists)
            ∙ ap (λ a. first_of a
            (meanings rules version p.done (rows ++ flat_map (λ rows. rows) lists))) p.none
            ∙ meanings-append rules version p.done rows (flat_map (λ rows. rows) lists)
            ∙ rw (told.0) refl

    -- the part's rows, and that they stand below the limit
    pub JoinsParts-below : (most : ℕ) → length all ≤ most
        → (p : JoinsParts all table (part ∷ left))
        → (more : List Row) × AllZip keeps more part.rows.items
        × (length p.done + length more ≤ most)
    JoinsParts-below most few p = by p.lists p.behind p.kept
      where
        by : (lists : List (List Row)) → all ≡ p.done ++ flat_map (λ rows. rows) lists
            → AllZip (λ rows (part : AheadRows A T). AllZip keeps rows part.rows.items) lists
            (part ∷ left)
            → (more : List Row) × AllZip keeps more part.rows.items
            × (length p.done + length more ≤ most)
        by [] behind kept = absurd kept
        by (rows ∷ lists) behind kept = (
          rows,
          kept.0,
          omega (
            arith,
            ap length behind,
            length-append p.done (rows ++ flat_map (λ rows. rows) lists),
            length-append rows (flat_map (λ rows. rows) lists),
          ),
        )

  -- where none is left nothing is wrong with any row, and the table has them all
  pub JoinsParts-ends : (all : List Row) (table : T) → JoinsParts all table []
      → (meanings rules version [] all ≡ None) × has all table
  JoinsParts-ends all table p = by p.lists p.behind p.kept
    where
      by : (lists : List (List Row)) → all ≡ p.done ++ flat_map (λ rows. rows) lists
          → AllZip (λ rows (part : AheadRows A T). AllZip keeps rows part.rows.items) lists []
          → (meanings rules version [] all ≡ None) × has all table
      by [] behind kept =
          let whole : p.done ≡ all = sym (append-nil p.done) ∙ sym behind in (
            subst (λ rows. meanings rules version [] rows ≡ None) whole p.none,
            subst (λ rows. has rows table) whole p.has_rows,
          )
      by (rows ∷ lists) behind kept = absurd kept

module _ (rules : FileRules) (bytes : List ℕ)
    (clean : (k : ℕ) → k < length (data_rows bytes) → IsClean (by_themselves rules)
    (header_in rules.form (rows bytes)) (slice_index_or (data_rows bytes) k (0, [])))
    (few : length (data_rows bytes) ≤ rules.form.most_rows) where
  abbrev version : ℕ
  version = version_in rules.form bytes

  abbrev body : List Row
  body = data_rows bytes

  abbrev at : ℕ → Row
  at k = slice_index_or body k (0, [])

  -- the fault of a row is what is wrong with it beside those before it
  row_fault-means : (k : ℕ) → k < length body
      → row_fault rules bytes k ≡ rules.meaning version (take k body) (at k)
  row_fault-means k lt =
      let here = clean k lt in
      let size = length-take-le k body (omega arith) in
      ap (option_and_then (fault_behind rules (header_in rules.form (rows bytes)) (take k body)))
      (slice_get-get_or body k (0, []) lt)
      ∙ clean-means rules (header_in rules.form (rows bytes)) (take k body) (at k) (omega arith)
      (record { shape = here.shape; reading = here.reading })

  least-means : (n : ℕ) → n ≤ length body
      → least_fault (row_fault rules bytes) n ≡ meanings rules version [] (take n body)
  unfolding least_fault
  least-means zero le = refl
  least-means (suc n) le =
      let lt : n < length body = omega arith in
      let next : suc n ≡ n + 1 = omega arith in
      let grown : take (suc n) body ≡ take n body ++ at n ∷ [] =
      ap (λ k. take k body) next ∙ take_more body n (0, []) lt in
      (λ j. first_of (least-means n (omega arith) j) (row_fault-means n lt j))
      ∙ ap (first_of (meanings rules version [] (take n body)))
      (sym (first_of-last (rules.meaning version (take n body) (at n))))
      ∙ sym (meanings-append rules version [] (take n body) (at n ∷ []))
      ∙ sym (ap (meanings rules version []) grown)

  -- the first fault of a file none of whose rows is wrong by itself
  pub first-means : first_row_fault rules.form (rows bytes) ≡ None
      → first_fault rules bytes ≡ meanings rules version [] body
  first-means header =
      rw header (least-means (length body) (omega arith)
      ∙ ap (meanings rules version []) (take_all (length body) body (omega arith)))
