-- The entries of the rows read grow as the rows do, and what is wrong with a row beside the earlier
-- rows is what is wrong with it beside their entries.
use Rattle.std.proofs.Common.{zero, suc, ◌≡◌, ◌≢◌, ◌<◌, ◌≤◌, ℕ, ◌⊎◌, inl, inr, None, Some, Option, List, [], ◌∷◌, ◌++◌, map, length, get_or, slice_set, replicate, find, position, nat_eq, eqb, true, false, is_none, ◌==◌, refl, sym, ap, ◌∙◌, arith}
use Rattle.std.specs.List.{IsDistinct}
use Rattle.std.specs.Option.{option_map, option_and_then, option_or}
use Rattle.std.proofs.lemmas.Bool.{cases_lt, eqb-false, eqb-true, ne_eqb}
use Rattle.std.proofs.lemmas.Bool.Decides.{eqb_tells, nat_tests}
use Rattle.std.proofs.lemmas.List.{get_or-map, get_or_read, get_or-set_other, get_or-set_same, length-map, length-set, same_lists}
use Rattle.std.proofs.lemmas.List.Folds.{find-append}
use Rattle.std.proofs.lemmas.List.Quantifiers.{position-Some}
use Rattle.std.proofs.lemmas.Map.Keys.{apart_from_distinct}
use Rattle.market.specs.Stability.{held_by}
use Rattle.place_base.specs.declared.fault.FaultKind.TheVariants.{UnknownCandidate}
use Rattle.place_base.specs.declared.fault.FileFault.{FileFault}
use Rattle.place_base.specs.declared.fault.FileKind.TheVariants.{Placement}
use Rattle.record_files.specs.FirstFaults.{duplicate_at, fault_at, fault_if, first_of}
use Rattle.record_files.specs.Rows.{Row}
use Rattle.placement_file.proofs.FoundRows.{found-other, found-own}
use Rattle.placement_file.specs.Growth.{HasRows, IsFieldsOf, clash, entry_in, held_of, programme_held}
use Rattle.placement_file.specs.Rows.{code_in, meaning, number_in, unknown_fault}
use Rattle.placement_file.specs.Table.{held_in, programme_in, programme_of}
use Rattle.placement_file.specs.declared.row.Fields.{Fields}
use Rattle.placement_file.specs.declared.row.Held.{Held}

-- two entries of a list without repeats differ
entries-differ : (candidates : List ℕ) (i k : ℕ) → IsDistinct nat_eq candidates
    → i < length candidates → k < length candidates → k ≢ i
    → get_or candidates k 0 ≢ get_or candidates i 0
entries-differ candidates i k distinct within inside other same =
    by (cases_lt k i)
  where
    by : (k < i) ⊎ (i ≤ k) → ⊥
    by (inl before) = eqb-false (get_or candidates k 0) (get_or candidates i 0)
        (apart_from_distinct nat_eq candidates k i 0 distinct before within) same
    by (inr behind) = eqb-false (get_or candidates i 0) (get_or candidates k 0)
        (apart_from_distinct nat_eq candidates i k 0 distinct (omega (arith, other)) inside)
        (sym same)

-- what all candidates but one have stays, and that one gets another
pub set-one : {B : Type 0} (f g : ℕ → B) (candidates : List ℕ) (i n : ℕ) (x : B)
    → IsDistinct nat_eq candidates → i < length candidates → get_or candidates i 0 ≡ n → x ≡ g n
    → ((m : ℕ) → m ≢ n → f m ≡ g m)
    → slice_set (map f candidates) i x ≡ map g candidates
set-one {B = B} f g candidates i n x distinct within is new same =
    let sizes = length-map candidates f in
    let wide : i < length (map f candidates) = omega (arith, sizes) in
    same_lists (slice_set (map f candidates) i x) (map g candidates)
    (length-set (map f candidates) i x ∙ sizes ∙ sym (length-map candidates g))
    (λ k d inside. at k d wide (omega (arith, inside, sizes, length-set (map f candidates) i x)))
  where
    at : (k : ℕ) (d : B) → i < length (map f candidates) → k < length candidates
        → get_or (slice_set (map f candidates) i x) k d ≡ get_or (map g candidates) k d
    at k d wide inside = by (eqb_tells k i)
      where
        by : ((eqb k i ≡ true) × (k ≡ i)) ⊎ ((eqb k i ≡ false) × (k ≢ i))
            → get_or (slice_set (map f candidates) i x) k d ≡ get_or (map g candidates) k d
        by (inl (t, e)) =
            ap (λ h. get_or (slice_set (map f candidates) i x) h d) e
            ∙ get_or-set_same (map f candidates) i x d wide ∙ new ∙ ap g (sym is)
            ∙ sym (get_or-map g candidates i 0 d within)
            ∙ ap (λ h. get_or (map g candidates) h d) (sym e)
        by (inr (t, e)) =
            get_or-set_other (map f candidates) i k x d e
            ∙ get_or-map f candidates k 0 d inside
            ∙ same (get_or candidates k 0)
            (λ h. entries-differ candidates i k distinct within inside e (h ∙ sym is))
            ∙ sym (get_or-map g candidates k 0 d inside)

-- no rows give no candidate anything
pub no_entries : (programmes candidates : List ℕ)
    → replicate (length candidates) None ≡ map (entry_in programmes []) candidates
no_entries programmes [] = refl
no_entries programmes (c ∷ cs) = ap (λ rest. None ∷ rest) (no_entries programmes cs)

-- a candidate holds the programme of what a row gives
held-entry : (programmes : List ℕ) (row : Option Row)
    → programme_held (option_map (held_of programmes) row)
    ≡ option_and_then (programme_in programmes) row
held-entry programmes None = refl
held-entry programmes (Some row) = refl

-- so all candidates do
pub held-entries : (programmes : List ℕ) (rows : List Row) (candidates : List ℕ)
    → map programme_held (map (entry_in programmes rows) candidates)
    ≡ map (held_in programmes rows) candidates
held-entries programmes rows [] = refl
held-entries programmes rows (c ∷ cs) =
    let first = held-entry programmes (find (λ row. c == number_in row) rows) in
    let rest = held-entries programmes rows cs in
    λ j. first j ∷ rest j

-- a programme that a candidate holds is in the list
programme-listed : (programmes : List ℕ) (row : Option Row) (p : ℕ)
    → option_and_then (programme_in programmes) row ≡ Some p → p < length programmes
programme-listed programmes None p holds = cc
programme-listed programmes (Some row) p holds = by (code_in row) holds
  where
    by : (code : Option ℕ) → programme_of programmes code ≡ Some p → p < length programmes
    by None found = cc
    by (Some code) found = (position-Some (nat_eq code) programmes p 0 found).0

-- so are those that the candidates of a placement hold
pub held-listed : (programmes : List ℕ) (rows : List Row) (candidates : List ℕ) (i p : ℕ)
    → held_by (map (held_in programmes rows) candidates) i ≡ Some p → p < length programmes
held-listed programmes rows [] i p holds = cc
held-listed programmes rows (c ∷ cs) zero p holds =
    programme-listed programmes (find (λ row. c == number_in row) rows) p holds
held-listed programmes rows (c ∷ cs) (suc i) p holds = held-listed programmes rows cs i p holds

-- a row of another candidate gives this one nothing
entry-other : (programmes : List ℕ) (rows : List Row) (row : Row) (number : ℕ)
    → number ≢ number_in row
    → entry_in programmes rows number ≡ entry_in programmes (rows ++ row ∷ []) number
entry-other programmes = found-other number_in (held_of programmes)

-- a row gives its candidate what it holds, where no earlier row does
entry-own : (programmes : List ℕ) (rows : List Row) (row : Row)
    → entry_in programmes rows (number_in row) ≡ None
    → entry_in programmes (rows ++ row ∷ []) (number_in row) ≡ Some (held_of programmes row)
entry-own programmes = found-own number_in (held_of programmes)

-- a repeated candidate is told by the line of what the earlier row gives
repeated : (programmes : List ℕ) (line : ℕ) (row : Option Row)
    → option_map (λ held. duplicate_at Placement line 1 held.line)
    (option_map (held_of programmes) row)
    ≡ option_map (λ other. duplicate_at Placement line 1 other.0) row
repeated programmes line None = refl
repeated programmes line (Some row) = refl

module _ (programmes candidates : List ℕ) (rows : List Row) (row : Row)
    (entries : List (Option Held)) (fields : Fields)
    (has : HasRows programmes candidates rows entries) (says : IsFieldsOf row fields)
    (number index : ℕ) (same_number : number ≡ fields.number)
    (looked_up : Some index ≡ position (nat_eq number) candidates)
    (entry : Option Held) (read : entry ≡ get_or entries index entry) where
  -- the candidate's index
  found : position (nat_eq fields.number) candidates ≡ Some index
  found = ap (λ (n : ℕ). position (nat_eq n) candidates) (sym same_number) ∙ sym looked_up

  -- the candidate has an entry
  entry-within : index < length entries
  entry-within =
      let place = position-Some (nat_eq fields.number) candidates index 0 found in
      omega (
        arith,
        place.0,
        ap (λ (all : List (Option Held)). length all) has.entries_are,
        length-map candidates (entry_in programmes rows),
      )

  -- what stands at the candidate's index is what the earlier rows give the candidate
  entry-is : entry ≡ entry_in programmes rows (number_in row)
  entry-is =
      let place = position-Some (nat_eq fields.number) candidates index 0 found in
      let same : get_or candidates index 0 ≡ number_in row =
      sym (eqb-true fields.number (get_or candidates index 0) place.1) ∙ says.number in
      get_or_read entries index entry entry-within read None
      ∙ ap (λ (all : List (Option Held)). get_or all index None) has.entries_are
      ∙ get_or-map (entry_in programmes rows) candidates index 0 None place.0
      ∙ ap (entry_in programmes rows) same

  -- what is wrong with a row beside the earlier rows is what is wrong with it beside their entries
  clash-meaning : clash programmes candidates entry fields
      ≡ meaning programmes candidates rows row
  clash-meaning =
      let line = says.line in
      let number = says.number in
      let code = says.code in
      (λ j. first_of
      (fault_if (is_none (position (nat_eq (number j)) candidates))
      (fault_at Placement (line j) 1 UnknownCandidate))
      (first_of (option_map (λ held. duplicate_at Placement (line j) 1 held.line) (entry-is j))
      (unknown_fault programmes (line j) (code j))))
      ∙ (λ j. first_of
      (fault_if (is_none (position (nat_eq (number_in row)) candidates))
      (fault_at Placement row.0 1 UnknownCandidate))
      (first_of
      (repeated programmes row.0 (find (λ other. number_in row == number_in other) rows) j)
      (unknown_fault programmes row.0 (code_in row))))

  -- a candidate whom an earlier row gives something
  pub meaning-repeated : (held : Held) (fault : FileFault) → entry ≡ Some held
      → fault ≡ duplicate_at Placement fields.line 1 held.line
      → meaning programmes candidates rows row ≡ Some fault
  meaning-repeated held fault known told =
      sym clash-meaning ∙ known-clash ∙ ap (λ f. Some f) (sym told)
    where
      known-clash : clash programmes candidates entry fields
          ≡ Some (duplicate_at Placement fields.line 1 held.line)
      known-clash = rw (found, known) refl

  -- a candidate to whom no earlier row gives anything
  pub meaning-new : entry ≡ None
      → meaning programmes candidates rows row ≡ unknown_fault programmes fields.line fields.code
  meaning-new free = sym clash-meaning ∙ new-clash
    where
      new-clash : clash programmes candidates entry fields
          ≡ unknown_fault programmes fields.line fields.code
      new-clash = rw (found, free) refl

  -- one more row of such a candidate
  pub HasRows-next : (programme : Option ℕ) → entry ≡ None
      → programme ≡ programme_of programmes fields.code
      → HasRows programmes candidates (rows ++ row ∷ [])
      (slice_set entries index (Some (record { line = fields.line; programme = programme })))
  HasRows-next programme free holds =
      let place = position-Some (nat_eq fields.number) candidates index 0 found in
      let same : get_or candidates index 0 ≡ number_in row =
      sym (eqb-true fields.number (get_or candidates index 0) place.1) ∙ says.number in
      let code = holds ∙ ap (programme_of programmes) says.code in
      let line = says.line in
      let held : Some (record { line = fields.line; programme = programme })
      ≡ Some (held_of programmes row) =
      λ j. Some (record { line = line j; programme = code j }) in
      record {
        distinct = has.distinct;
        entries_are = ap (λ (all : List (Option Held)). slice_set all index
            (Some (record { line = fields.line; programme = programme }))) has.entries_are
            ∙ set-one (entry_in programmes rows) (entry_in programmes (rows ++ row ∷ [])) candidates
            index (number_in row) _ has.distinct place.0 same
            (held ∙ sym (entry-own programmes rows row (sym entry-is ∙ free)))
            (entry-other programmes rows row);
      }
