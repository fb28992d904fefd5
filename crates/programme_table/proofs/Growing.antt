-- The table of the rows read grows as the rows do: a new row leaves the types of the earlier ones
-- where they are, and what is wrong with it beside the rows is what is wrong with it beside the
-- table.
use Rattle.std.proofs.Common.{nat_le, ◌≡◌, ◌≤◌, ◌<◌, ℕ, Bool, true, false, List, [], ◌∷◌, ◌++◌, map, length, length-append, refl, arith, sym, ap, ◌∙◌, Option, Some, None}
use Rattle.std.specs.List.{list_any, AllByRecursion}
use Rattle.std.specs.Option.{option_map}
use Rattle.std.specs.Str.{bytes_eq}
use Rattle.std.proofs.Math.Bool.{and-true}
use Rattle.std.proofs.lemmas.Bool.{leb-false}
use Rattle.std.proofs.lemmas.Cmp.{nat_list_eq_equiv}
use Rattle.std.proofs.lemmas.List.{map-append}
use Rattle.std.proofs.lemmas.List.Elements.{All-push, All-weaker}
use Rattle.programme_table.specs.declared.row.ProgrammeRow.{ProgrammeRow}
use Rattle.indexmap.specs.IndexSet.{insert_key}
use Rattle.market.specs.Problems.{IsBar}
use Rattle.place_base.specs.declared.fault.FaultKind.TheVariants.{OutOfRange}
use Rattle.place_base.specs.declared.fault.FileKind.TheVariants.{Programmes as programmes}
use Rattle.place_base.specs.declared.limits.TheConstants.{LARGEST_QUOTA, MOST_PROGRAMMES, MOST_TYPES}
use Rattle.record_files.proofs.Keys.{repeat_fault-line_of}
use Rattle.record_files.specs.FirstFaults.{duplicate_at, fault_at, fault_if, first_of}
use Rattle.record_files.specs.Keys.{line_of, with_line}
use Rattle.record_files.specs.Rows.{Row}
use Rattle.programme_table.proofs.FirstAppearances.{any-first, any-insert_key_added, length-insert_key, first_appearances-snoc, place-insert_key_other, place-within}
use Rattle.programme_table.proofs.Bars.{IsBar-from}
use Rattle.programme_table.specs.Growth.{IsFieldsOf, clash, with_programme, is_full_for}
use Rattle.programme_table.specs.Rows.{bar_of, code_of, first_appearances, is_type_too_many, meaning, quota_of, type_of, types_of}
use Rattle.programme_table.specs.Table.{IsTable, Programmes, kind_named, programme_row_in, table_of}
use Rattle.programme_table.specs.declared.row.Fields.{Fields}

-- the row's type is among the names
abbrev IsTyped : List (List ℕ) → Row → Type 0
IsTyped names row = list_any (bytes_eq (type_of row)) names ≡ true

weaker : {X : Type 0} (P Q : X → Type 0) → ((x : X) → P x → Q x) → (xs : List X)
    → AllByRecursion P xs → AllByRecursion Q xs
weaker P Q w [] all = tt
weaker P Q w (x ∷ xs) all = (w x all.0, weaker P Q w xs all.1)

-- each row's type is among the types of the rows
typed : (rows : List Row) → AllByRecursion (IsTyped (types_of rows)) rows
typed [] = tt
typed (row ∷ rows) = (
  rw (nat_list_eq_equiv.refl (type_of row)) refl,
  weaker (IsTyped (types_of rows)) (IsTyped (types_of (row ∷ rows)))
      (λ other there. any-first (type_of row) (type_of other) (types_of rows) there) rows
      (typed rows),
)

-- a type that is added leaves the programmes of the others as they were
map-programme_row_in : (version : ℕ) (names : List (List ℕ)) (added : List ℕ) (rows : List Row)
    → AllByRecursion (IsTyped names) rows
    → map (programme_row_in version (insert_key bytes_eq names added)) rows
    ≡ map (programme_row_in version names) rows
map-programme_row_in version names added [] all = refl
map-programme_row_in version names added (row ∷ rows) all =
    let same : programme_row_in version (insert_key bytes_eq names added) row
    ≡ programme_row_in version names row =
    ap (λ kind. record {
      code = code_of row;
      kind = kind;
      quota = quota_of row;
      bar = bar_of version row;
    })
    (place-insert_key_other names (type_of row) added all.0) in
    let later = map-programme_row_in version names added rows all.1 in
    cc

-- the table of one more row
pub table_of-snoc : (version : ℕ) (rows : List Row) (row : Row) (fields : Fields)
    → IsFieldsOf version row fields
    → with_programme (table_of version rows) fields ≡ table_of version (rows ++ row ∷ [])
table_of-snoc version rows row fields f =
    let line = f.line in
    let code = f.code in
    let name = f.name in
    let quota = f.quota in
    let bar = f.bar in
    let before = types_of rows in
    let after = insert_key bytes_eq before (type_of row) in
    let names : types_of (rows ++ row ∷ []) ≡ after =
    ap first_appearances (map-append type_of rows (row ∷ []))
    ∙ first_appearances-snoc (map type_of rows) (type_of row) in
    let in_row = programme_row_in version in
    let programmes_are : map (in_row (types_of (rows ++ row ∷ []))) (rows ++ row ∷ [])
    ≡ map (in_row before) rows ++ in_row after row ∷ [] =
    ap (λ types. map (in_row types) (rows ++ row ∷ [])) names
    ∙ map-append (in_row after) rows (row ∷ [])
    ∙ ap (λ earlier. earlier ++ in_row after row ∷ [])
    (map-programme_row_in version before (type_of row) rows (typed rows)) in
    let codes = map-append (with_line code_of) rows (row ∷ []) in
    let grown : with_programme (table_of version rows) fields ≡ record {
      rows = map (in_row before) rows ++ in_row after row ∷ [];
      codes = map (with_line code_of) rows ++ with_line code_of row ∷ [];
      names = after;
    } = λ j.
    let all = insert_key bytes_eq before (name j) in
    record {
      rows = map (in_row before) rows
          ++ record {
            code = code j;
            kind = kind_named all (name j);
            quota = quota j;
            bar = bar j;
          }
          ∷ [];
      codes = map (with_line code_of) rows ++ (code j, line j) ∷ [];
      names = all;
    } in
    grown ∙ sym (λ j. record { rows = programmes_are j; codes = codes j; names = names j })

-- what is wrong with a row beside the earlier rows is what is wrong with it beside their table
pub clash-table_of : (version : ℕ) (rows : List Row) (row : Row) (fields : Fields)
    → IsFieldsOf version row fields
    → clash (table_of version rows) fields ≡ meaning rows row
clash-table_of version rows row fields f =
    let line = f.line in
    let code = f.code in
    let name = f.name in
    let repeated = repeat_fault-line_of programmes 1 row.0 code_of (code_of row) rows in
    let full = fault_if (is_type_too_many rows row) (fault_at programmes row.0 2 OutOfRange) in
    (λ j. first_of
    (option_map (duplicate_at programmes (line j) 1) (line_of (table_of version rows).codes (code j)))
    (fault_if (is_full_for (table_of version rows) (name j)) (fault_at programmes (line j) 2 OutOfRange)))
    ∙ (λ j. first_of (repeated j) full)

-- where nothing clashes, no earlier programme has the code
pub clash-new : (table : Programmes) (fields : Fields) → clash table fields ≡ None
    → line_of table.codes fields.code ≡ None
clash-new table fields none = by (line_of table.codes fields.code) none
  where
    by : (found : Option ℕ)
        → first_of (option_map (duplicate_at programmes fields.line 1) found)
        (fault_if (is_full_for table fields.name) (fault_at programmes fields.line 2 OutOfRange))
        ≡ None
        → found ≡ None
    by None h = refl
    by (Some earlier) h = cc

-- and there is room for the type
pub clash-room : (table : Programmes) (fields : Fields) → clash table fields ≡ None
    → length table.names ≤ MOST_TYPES
    → length (insert_key bytes_eq table.names fields.name) ≤ MOST_TYPES
clash-room table fields none few =
    let new = clash-new table fields none in
    let room : fault_if (is_full_for table fields.name)
    (fault_at programmes fields.line 2 OutOfRange)
    ≡ None = rw new at none in
    by (is_full_for table fields.name) refl room (list_any (bytes_eq fields.name) table.names) refl
  where
    by : (full : Bool) → is_full_for table fields.name ≡ full
        → fault_if full (fault_at programmes fields.line 2 OutOfRange) ≡ None → (known : Bool)
        → list_any (bytes_eq fields.name) table.names ≡ known
        → length (insert_key bytes_eq table.names fields.name) ≤ MOST_TYPES
    by true full none known there = cc
    by false full none true there = rw there few
    by false full none false there =
        let room : nat_le MOST_TYPES (length table.names) ≡ false =
        sym (and-true (nat_le MOST_TYPES (length table.names))) ∙ (rw there at full) in
        let below : length table.names < MOST_TYPES =
        leb-false MOST_TYPES (length table.names) room in
        rw there (omega (arith, length-append {A = List ℕ}))

-- a table with one more programme fits
pub IsTable-with : (table : Programmes) (fields : Fields) → IsTable table
    → length table.rows < MOST_PROGRAMMES → clash table fields ≡ None
    → IsTable (with_programme table fields)
IsTable-with table fields fits room none =
    let names = insert_key bytes_eq table.names fields.name in
    let row : ProgrammeRow = record {
      code = fields.code;
      kind = kind_named names fields.name;
      quota = fields.quota;
      bar = fields.bar;
    } in
    let grown : length table.names ≤ length names = length-insert_key table.names fields.name in
    let kind : kind_named names fields.name < length names =
    place-within (bytes_eq fields.name) names (any-insert_key_added table.names fields.name) in
    record {
      codes = map-append (λ (at : ℕ × ℕ). at.0) table.codes ((fields.code, fields.line) ∷ [])
          ∙ ap (λ codes. codes ++ fields.code ∷ []) fits.codes
          ∙ sym (map-append (λ (one : ProgrammeRow). one.code) table.rows (row ∷ []));
      kinds = All-push (λ (one : ProgrammeRow). one.kind < length names) table.rows row
          (All-weaker (λ (one : ProgrammeRow). one.kind < length table.names)
          (λ (one : ProgrammeRow). one.kind < length names) (λ one below. omega arith) table.rows
          fits.kinds) kind;
      quotas = All-push (λ (one : ProgrammeRow). one.quota ≤ LARGEST_QUOTA) table.rows row
          fits.quotas fields.limit;
      bars = All-push (λ (one : ProgrammeRow). IsBar one.bar) table.rows row fits.bars
          (IsBar-from fields.bar fields.bar_limit);
      few_rows = omega (arith, length-append table.rows (row ∷ []));
      few_names = clash-room table fields none fits.few_names;
    }
