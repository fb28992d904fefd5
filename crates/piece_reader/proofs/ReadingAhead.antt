-- What is known of a part whose rows have no fault; and the tables of all parts, one after the
-- other.
use Rattle.std.proofs.Common.{◌≡◌, ◌==◌, ℕ, zero, suc, ◌+◌, ◌<◌, ◌≤◌, false, drop, if◌then◌else◌, List, [], ◌∷◌, ◌++◌, All, IfSome, Ok, None, Option, Result, Some, length, get_or, refl, sym, ap, ◌∙◌, arith, append_assoc, subst, take, length-append}
use Rattle.std.specs.List.{AllZip, flat_map}
use Rattle.std.specs.Prelude.{option_and_then}
use Rattle.std.proofs.lemmas.Bool.Decides.{nat_tests}
use Rattle.std.proofs.lemmas.Grind.{flat_map-append}
use Rattle.std.proofs.lemmas.List.{append-nil, get_or-map, length-map}
use Rattle.std.proofs.lemmas.List.Elements.{All-append, All-nil}
use Rattle.std.proofs.lemmas.Option.{slice_get-get_or}
use Rattle.record_files.specs.FirstFaults.{FileRules, fault_behind, fault_in, first_row_fault, least_fault}
use Rattle.record_files.specs.Form.{header_in}
use Rattle.record_files.specs.ReadTo.{AreRowsTaken}
use Rattle.record_files.specs.Rows.{Row, data_rows, part_rows, rows}
use Rattle.record_files.specs.declared.form.Header.{Header}
use Rattle.record_files.specs.declared.reading.RowsRead.{RowsRead}
use Rattle.record_files.specs.declared.rows.RowPart.{RowPart}
use Rattle.record_files.proofs.FirstFaultLemmas.{AreRowsTaken-whole, least_fault-each}
use Rattle.piece_reader.specs.Ahead.{ArePartsRead, AreReadAhead, AreTablesOf, IsClean, IsPartRead}
use Rattle.piece_reader.specs.Header.{BeginsWithRow, data_lists}
use Rattle.piece_reader.proofs.CleanParts.{IsClean-from}
use Rattle.piece_reader.proofs.DataRows.{data_rows-of_lists}

-- one more at the end of two lists
pub AllZip-more : {A B : Type 0} (R : A → B → Type 0) (xs : List A) (ys : List B) (x : A) (y : B)
    → AllZip R xs ys → R x y → AllZip R (xs ++ x ∷ []) (ys ++ y ∷ [])
AllZip-more R [] [] x y all here = (here, tt)
AllZip-more R [] (z ∷ ys) x y all here = absurd all
AllZip-more R (z ∷ xs) [] x y all here = absurd all
AllZip-more R (z ∷ xs) (w ∷ ys) x y all here = (all.0, AllZip-more R xs ys x y all.1 here)

-- what holds at each place
pub AllZip-each : {A B : Type 0} (R : A → B → Type 0) (xs : List A) (ys : List B)
    → length xs ≡ length ys
    → ((k : ℕ) (d : A) (e : B) → k < length xs → R (get_or xs k d) (get_or ys k e))
    → AllZip R xs ys
AllZip-each R [] [] same each = tt
AllZip-each R [] (y ∷ ys) same each = absurd (omega arith)
AllZip-each R (x ∷ xs) [] same each = absurd (omega arith)
AllZip-each R (x ∷ xs) (y ∷ ys) same each = (
  each 0 x y (omega arith),
  AllZip-each R xs ys (omega arith) (λ k d e lt. each (suc k) d e (omega arith)),
)

module _ {G : Type 0} (rules : FileRules) (header : Header) (HasRows : ℕ → List Row → G → Type 0)
  where
    -- the rows of a part, where no fault of them was told
    pub IsPartRead-from : (all : List Row) (read : RowsRead G) → read.fault ≡ None
        → AreRowsTaken rules None header HasRows all read → IsPartRead rules header HasRows all read
    IsPartRead-from all read none taken =
        let count = taken.whole none in
        let least = subst (λ n. least_fault (fault_in rules header all) n ≡ None) count taken.none in
        record {
          has = AreRowsTaken-whole rules header HasRows all None read taken none;
          clean = λ k d below. IsClean-from rules header (take k all) (get_or all k d)
              (sym (ap (option_and_then (fault_behind rules header (take k all)))
              (slice_get-get_or all k d below))
              ∙ least_fault-each _ (length all) least k below);
          count = count;
        }

    -- the rows of the first parts are in these tables, so many
    pub record JoinsTo (lists : List (List Row)) (tables : List G) (count : ℕ)
        (left : List (List Row))
        : Type 0 where
      pub done : List (List Row)
      pub each : AllZip (HasRows header.version) done tables
      pub clean : All (IsClean rules header) (flat_map (λ rows. rows) done)
      pub size : count ≡ length (flat_map (λ rows. rows) done)
      pub behind : lists ≡ done ++ left

    -- before the first of the parts there is no table, and all lists are left
    pub JoinsTo-begin : (lists : List (List Row)) → JoinsTo lists [] 0 lists
    JoinsTo-begin lists =
        record { done = []; each = tt; clean = All-nil _; size = refl; behind = refl }

    -- a part that was read adds its table and its number of rows
    pub JoinsTo-next : (lists : List (List Row)) (tables : List G) (count : ℕ) (rows : List Row)
        (left : List (List Row)) (read : RowsRead G) → JoinsTo lists tables count (rows ∷ left)
        → IsPartRead rules header HasRows rows read
        → JoinsTo lists (tables ++ read.table ∷ []) (count + read.count) left
    JoinsTo-next lists tables count rows left read j is =
        let whole : flat_map (λ rows. rows) (j.done ++ rows ∷ [])
        ≡ flat_map (λ rows. rows) j.done ++ rows =
        flat_map-append (λ (rows : List Row). rows) j.done (rows ∷ [])
        ∙ ap (λ more. flat_map (λ rows. rows) j.done ++ more) (append-nil rows) in
        let sizes = length-append (flat_map (λ (rows : List Row). rows) j.done) rows in
        let before = j.size in
        let here = is.count in
        record {
          done = j.done ++ rows ∷ [];
          each = AllZip-more (HasRows header.version) j.done tables rows read.table j.each is.has;
          clean = subst (All (IsClean rules header)) (sym whole)
              (All-append (IsClean rules header) (flat_map (λ rows. rows) j.done) rows
              j.clean is.clean);
          size = omega (arith, ap length whole);
          behind = j.behind ∙ sym (append_assoc j.done (rows ∷ []) left);
        }

    -- where none is left and the rows are not too many, these are the tables of all parts
    pub JoinsTo-ends : (lists : List (List Row)) (tables : List G) (count : ℕ)
        → count ≤ rules.form.most_rows → JoinsTo lists tables count []
        → AreTablesOf rules header HasRows lists tables
    JoinsTo-ends lists tables count few j =
        let whole : j.done ≡ lists = sym (append-nil j.done) ∙ sym j.behind in
        record {
          each = subst (λ all. AllZip (HasRows header.version) all tables) whole j.each;
          clean =
              subst (λ all. All (IsClean rules header) (flat_map (λ rows. rows) all)) whole j.clean;
          few = omega (
            arith,
            j.size,
            ap (λ all. length (flat_map (λ (rows : List Row). rows) all)) whole,
          );
        }

    -- the parts left are those of the lists left
    pub record PartsLeft {E : Type 0} (lists : List (List Row)) (tables : List G) (count : ℕ)
        (parts : List (Result (Option (RowsRead G)) E)) : Type 0 where
      pub left : List (List Row)
      pub read : ArePartsRead rules header HasRows left parts
      pub joins : JoinsTo lists tables count left

    -- the next part was read, and adds its table and its number of rows
    pub PartsLeft-next : {E : Type 0} (lists : List (List Row)) (tables : List G) (count : ℕ)
        (read : RowsRead G) (parts : List (Result (Option (RowsRead G)) E))
        → PartsLeft lists tables count (Ok (Some read) ∷ parts)
        → PartsLeft lists (tables ++ read.table ∷ []) (count + read.count) parts
    PartsLeft-next {E} lists tables count read parts p = by p.left p.read p.joins
      where
        by : (left : List (List Row))
            → ArePartsRead {E = E} rules header HasRows left (Ok (Some read) ∷ parts)
            → JoinsTo lists tables count left
            → PartsLeft lists (tables ++ read.table ∷ []) (count + read.count) parts
        by [] each joins = absurd each
        by (rows ∷ left) each joins = record {
          left = left;
          read = each.1;
          joins = JoinsTo-next lists tables count rows left read joins each.0;
        }

    -- and where none is left these are the tables of all parts, if the rows are not too many
    pub PartsLeft-ends : {E : Type 0} (lists : List (List Row)) (tables : List G) (count : ℕ)
        → count ≤ rules.form.most_rows → PartsLeft {E = E} lists tables count []
        → AreTablesOf rules header HasRows lists tables
    PartsLeft-ends {E} lists tables count few p = by p.left p.read p.joins
      where
        by : (left : List (List Row)) → ArePartsRead {E = E} rules header HasRows left []
            → JoinsTo lists tables count left → AreTablesOf rules header HasRows lists tables
        by [] each joins = JoinsTo-ends lists tables count few joins
        by (rows ∷ left) each joins = absurd each

-- the data rows of the part of a number
pub data_lists-at : (bytes : List ℕ) (parts : List RowPart) (k : ℕ) (d : List Row) (p : RowPart)
    → k < length parts
    → get_or (data_lists bytes parts) k d
    ≡ drop (if k == 0 then 1 else 0) (part_rows bytes (get_or parts k p))
data_lists-at bytes [] k d p lt = absurd (omega arith)
data_lists-at bytes (part ∷ parts) zero d p lt = refl
data_lists-at bytes (part ∷ parts) (suc k) d p lt =
    let later : (suc k == 0) ≡ false = grind (arith, nat_tests) in
    get_or-map (part_rows bytes) parts k p d (omega arith)
    ∙ ap (λ t. drop (if t then 1 else 0) (part_rows bytes (get_or parts k p))) (sym later)

-- there is a list of data rows for each part
pub length-data_lists : (bytes : List ℕ) (parts : List RowPart)
    → length (data_lists bytes parts) ≡ length parts
length-data_lists bytes [] = refl
length-data_lists bytes (part ∷ parts) = ap suc (length-map parts (part_rows bytes))

-- what follows from a fact holds of what may be there, where the fact does
pub IfSome-weaker : {X : Type 0} (o : Option X) (P Q : X → Type 0) → ((x : X) → P x → Q x)
    → IfSome o P → IfSome o Q
IfSome-weaker None P Q w h = tt
IfSome-weaker (Some x) P Q w h = w x h

-- the tables of the parts of a file
pub AreReadAhead-from : {G : Type 0} (rules : FileRules) (HasRows : ℕ → List Row → G → Type 0)
    (bytes : List ℕ) (parts : List RowPart) (header : Header) (tables : List G)
    → first_row_fault rules.form (rows bytes) ≡ None → header ≡ header_in rules.form (rows bytes)
    → BeginsWithRow bytes parts → flat_map (part_rows bytes) parts ≡ rows bytes
    → AreTablesOf rules header HasRows (data_lists bytes parts) tables
    → AreReadAhead rules HasRows bytes tables
AreReadAhead-from rules HasRows bytes parts header tables passed same first all t =
    let whole : flat_map (λ rows. rows) (data_lists bytes parts) ≡ data_rows bytes =
    data_rows-of_lists bytes parts first ∙ ap (drop 1) all in
    let few = t.few in
    record {
      header = passed;
      clean = subst (λ h. All (IsClean rules h) (data_rows bytes)) same
          (subst (All (IsClean rules header)) whole t.clean);
      few = omega (arith, ap length whole);
      lists = data_lists bytes parts;
      whole = whole;
      each = subst (λ (h : Header). AllZip (HasRows h.version) (data_lists bytes parts) tables) same
          t.each;
    }
