-- The candidates read grow as the rows do, and a row repeats an earlier one exactly where its
-- candidate is found among them.
use Rattle.std.proofs.Common.{◌≡◌, ◌≤◌, ◌<◌, ◌+◌, ℕ, Bool, None, Some, Option, List, [], ◌∷◌, ◌++◌, map, length, find, position, nat_eq, not, cond, is_some, false, ◌==◌, refl, sym, ap, ◌∙◌, arith}
use Rattle.std.specs.Prelude.{slice_get}
use Rattle.std.specs.List.{position_or_len}
use Rattle.std.specs.Option.{option_map}
use Rattle.std.proofs.lemmas.Bool.Decides.{nat_tests}
use Rattle.std.proofs.lemmas.Grind.{common_steps}
use Rattle.std.proofs.lemmas.List.{length-map, map-append, length-append}
use Rattle.std.proofs.lemmas.Option.{slice_get-map, slice_get_past}
use Rattle.std.proofs.lemmas.List.Folds.{find_at}
use Rattle.std.proofs.lemmas.List.Quantifiers.{position-Some}
use Rattle.place_base.specs.declared.fault.FileKind.TheVariants.{Placement}
use Rattle.place_base.specs.declared.limits.TheConstants.{MOST_CANDIDATES}
use Rattle.record_files.specs.FirstFaults.{duplicate_at}
use Rattle.record_files.specs.Rows.{Row}
use Rattle.placement_file.specs.Growth.{IsFieldsOf}
use Rattle.placement_file.specs.Rows.{number_in}
use Rattle.placement_file.specs.SeatLists.{HasSeats, SeatRows, candidates_of, meaning_alone, seat_in}
use Rattle.placement_file.specs.declared.row.Fields.{Fields}

-- the place of a number among those of rows is that of the first row that has it
place-in : (n : ℕ) (rows : List Row) → position_or_len (nat_eq n) (candidates_of (map seat_in rows))
    ≡ position_or_len (λ other. n == number_in other) rows
place-in n [] = refl
place-in n (row ∷ rows) =
    ap (λ k. cond (not (nat_eq n (number_in row))) (1 + k) 0) (place-in n rows)

-- a row that is found is told by its line
told-line : (line earlier : ℕ) (found : Option Row) → option_map (λ row. row.0) found ≡ Some earlier
    → option_map (λ row. duplicate_at Placement line 1 row.0) found
    ≡ Some (duplicate_at Placement line 1 earlier)
told-line line earlier None e = cc e
told-line line earlier (Some row) e =
    let same : row.0 ≡ earlier = cc e in
    ap (λ n. Some (duplicate_at Placement line 1 n)) same

-- where a test holds first, by an index that was found
found-place : (test : ℕ → Bool) (numbers : List ℕ) (index : ℕ) → position test numbers ≡ Some index
    → position_or_len test numbers ≡ index
found-place test numbers index found = grind (arith, common_steps)

-- a test that holds nowhere
missed-place : (test : ℕ → Bool) (numbers : List ℕ) → position test numbers ≡ None
    → length numbers ≤ position_or_len test numbers
missed-place test numbers missed = grind (arith, nat_tests)

-- as many rows as lines
lines-count : (rows : List Row) (seats : SeatRows) (lines : List ℕ) → HasSeats rows seats lines
    → length lines ≡ length rows
lines-count rows seats lines has =
    ap (λ (all : List ℕ). length all) has.lines_are ∙ length-map rows (λ (row : Row). row.0)

-- all rows that these seats are of are as many
pub as-few : (rows others : List Row) (seats : SeatRows) (lines : List ℕ)
    → HasSeats rows seats lines → HasSeats others seats lines → length others < MOST_CANDIDATES
    → length rows < MOST_CANDIDATES
as-few rows others seats lines has also few =
    omega (arith, few, lines-count rows seats lines has, lines-count others seats lines also)

-- an option that is not some is none
pub none-left : {A : Type 0} (found : Option A) → is_some found ≡ false → found ≡ None
none-left None e = refl
none-left (Some x) e = cc e

module _ (rows : List Row) (row : Row) (seats : SeatRows) (lines : List ℕ) (fields : Fields)
    (has : HasSeats rows seats lines) (says : IsFieldsOf row fields) where
  -- the place of the row's candidate among those read, in the rows
  place-read : position_or_len (nat_eq fields.number) (candidates_of seats)
      ≡ position_or_len (λ other. number_in row == number_in other) rows
  place-read =
      (λ j. position_or_len (nat_eq (says.number j)) (candidates_of (has.seats_are j)))
      ∙ place-in (number_in row) rows

  -- so there is a line at that place
  pub line-within : (index : ℕ) → position (nat_eq fields.number) (candidates_of seats) ≡ Some index
      → index < length lines
  line-within index found =
      let inside = (position-Some (nat_eq fields.number) (candidates_of seats) index 0 found).0 in
      omega (
        arith,
        inside,
        length-map seats (λ seat. seat.0),
        ap (λ (all : SeatRows). length all) has.seats_are,
        length-map rows seat_in,
        ap (λ (all : List ℕ). length all) has.lines_are,
        length-map rows (λ (other : Row). other.0),
      )

  -- a candidate that is found was read in an earlier row
  pub meaning-repeated : (index earlier : ℕ)
      → position (nat_eq fields.number) (candidates_of seats) ≡ Some index
      → slice_get lines index ≡ Some earlier
      → meaning_alone rows row ≡ Some (duplicate_at Placement fields.line 1 earlier)
  meaning-repeated index earlier found line =
      let place = sym place-read
      ∙ found-place (nat_eq fields.number) (candidates_of seats) index found
      in
      let first = find_at (λ other. number_in row == number_in other) rows
      ∙ ap (slice_get rows) place in
      let told = ap (option_map (λ (other : Row). other.0)) first
      ∙ sym (slice_get-map (λ (other : Row). other.0) rows index)
      ∙ ap (λ (all : List ℕ). slice_get all index) (sym has.lines_are) ∙ line in
      told-line row.0 earlier (find (λ other. number_in row == number_in other) rows) told
      ∙ ap (λ n. Some (duplicate_at Placement n 1 earlier)) (sym says.line)

  -- one that is not found was not
  pub meaning-new : position (nat_eq fields.number) (candidates_of seats) ≡ None
      → meaning_alone rows row ≡ None
  meaning-new missed =
      let past = missed-place (nat_eq fields.number) (candidates_of seats) missed in
      let sizes : length (candidates_of seats) ≡ length rows =
      length-map seats (λ seat. seat.0) ∙ ap (λ (all : SeatRows). length all) has.seats_are
      ∙ length-map rows seat_in in
      let none = find_at (λ other. number_in row == number_in other) rows
      ∙ slice_get_past rows _ (omega (arith, sizes, past, place-read)) in
      ap (option_map (λ (other : Row). duplicate_at Placement row.0 1 other.0)) none

  -- one more row
  pub HasSeats-next : length rows < MOST_CANDIDATES
      → HasSeats (rows ++ row ∷ []) (seats ++ (fields.number, fields.code) ∷ [])
      (lines ++ fields.line ∷ [])
  HasSeats-next few = record {
    seats_are = (λ j. has.seats_are j ++ (says.number j, says.code j) ∷ [])
        ∙ sym (map-append seat_in rows (row ∷ []));
    lines_are = (λ j. has.lines_are j ++ says.line j ∷ [])
        ∙ sym (map-append (λ (other : Row). other.0) rows (row ∷ []));
    few = omega (arith, few, length-append rows (row ∷ []));
  }
