-- The lines of the rows read grow as the rows do, and what is wrong with a row beside the earlier
-- rows is what is wrong with it beside their lines.
use Rattle.std.proofs.Common.{◌≡◌, ◌<◌, ℕ, None, Some, Option, List, [], ◌∷◌, ◌++◌, map, length, get_or, slice_set, replicate, find, position, nat_eq, is_none, is_some, ◌==◌, refl, sym, ap, ◌∙◌, arith}
use Rattle.std.specs.Option.{option_map}
use Rattle.std.proofs.lemmas.Bool.{eqb-true}
use Rattle.std.proofs.lemmas.List.{get_or-map, get_or_read, length-map}
use Rattle.std.proofs.lemmas.List.Quantifiers.{position-Some}
use Rattle.place_base.specs.declared.fault.FaultKind.TheVariants.{UnknownCandidate}
use Rattle.place_base.specs.declared.fault.FileFault.{FileFault}
use Rattle.place_base.specs.declared.fault.FileKind.TheVariants.{Registrations}
use Rattle.record_files.specs.FirstFaults.{duplicate_at, fault_at, fault_if, first_of}
use Rattle.record_files.specs.Rows.{Row}
use Rattle.placement_file.proofs.FoundRows.{found-other, found-own}
use Rattle.placement_file.proofs.Growing.{set-one}
use Rattle.placement_file.specs.Requests.{candidate_in}
use Rattle.second_placement.specs.Growth.{HasLines, IsFieldsOf, line_in}
use Rattle.second_placement.specs.Registrations.{is_named, meaning}
use Rattle.second_placement.specs.declared.registrations.Fields.{Fields}

-- no rows name no candidate
pub no-lines : (candidates : List ℕ)
    → replicate (length candidates) None ≡ map (line_in []) candidates
no-lines [] = refl
no-lines (c ∷ cs) = ap (λ rest. None ∷ rest) (no-lines cs)

-- a candidate is named where there is a line of a row that names it
has-line : (row : Option Row) → is_some (option_map (λ (r : Row). r.0) row) ≡ is_some row
has-line None = refl
has-line (Some row) = refl

pub have-lines : (rows : List Row) (candidates : List ℕ)
    → map is_some (map (line_in rows) candidates) ≡ map (is_named rows) candidates
have-lines rows [] = refl
have-lines rows (c ∷ cs) =
    let first = has-line (find (λ row. c == candidate_in row) rows) in
    let rest = have-lines rows cs in
    λ j. first j ∷ rest j

-- a repeated candidate is told by the line of the earlier row
repeated : (line : ℕ) (row : Option Row)
    → option_map (λ earlier. duplicate_at Registrations line 1 earlier)
    (option_map (λ (r : Row). r.0) row)
    ≡ option_map (λ other. duplicate_at Registrations line 1 other.0) row
repeated line None = refl
repeated line (Some row) = refl

module _ (candidates : List ℕ) (rows : List Row) (row : Row) (lines : List (Option ℕ))
    (fields : Fields) (has : HasLines candidates rows lines) (says : IsFieldsOf row fields)
    (number index : ℕ) (same_number : number ≡ fields.candidate)
    (looked_up : Some index ≡ position (nat_eq number) candidates)
    (line : Option ℕ) (read : line ≡ get_or lines index line) where
  -- the candidate's index
  found : position (nat_eq (candidate_in row)) candidates ≡ Some index
  found =
      ap (λ (n : ℕ). position (nat_eq n) candidates) (sym (same_number ∙ says.candidate))
      ∙ sym looked_up

  -- at which the candidate stands
  candidate-there : get_or candidates index 0 ≡ candidate_in row
  candidate-there =
      let place = position-Some (nat_eq (candidate_in row)) candidates index 0 found in
      sym (eqb-true (candidate_in row) (get_or candidates index 0) place.1)

  -- what stands at the candidate's index is the line of the earlier row that names it
  line-is : line ≡ line_in rows (candidate_in row)
  line-is =
      let place = position-Some (nat_eq (candidate_in row)) candidates index 0 found in
      let sizes = ap (λ (all : List (Option ℕ)). length all) has.lines_are in
      let same = length-map candidates (line_in rows) in
      let within : index < length lines = omega (arith, place.0) in
      get_or_read lines index line within read None
      ∙ ap (λ (all : List (Option ℕ)). get_or all index None) has.lines_are
      ∙ get_or-map (line_in rows) candidates index 0 None place.0
      ∙ ap (line_in rows) candidate-there

  -- what is wrong with the row
  meaning-is : meaning candidates rows row
      ≡ option_map (λ earlier. duplicate_at Registrations row.0 1 earlier) line
  meaning-is =
      (λ j. first_of
      (fault_if (is_none (found j)) (fault_at Registrations row.0 1 UnknownCandidate))
      (sym (repeated row.0 (find (λ other. candidate_in row == candidate_in other) rows)) j))
      ∙ ap (option_map (λ earlier. duplicate_at Registrations row.0 1 earlier)) (sym line-is)

  -- a candidate whom an earlier row names
  pub meaning-repeated : (earlier : ℕ) (fault : FileFault) → line ≡ Some earlier
      → fault ≡ duplicate_at Registrations fields.line 1 earlier
      → meaning candidates rows row ≡ Some fault
  meaning-repeated earlier fault known told =
      let own = says.line in
      meaning-is
      ∙ (λ j. option_map (λ (n : ℕ). duplicate_at Registrations (sym own j) 1 n) (known j))
      ∙ ap (λ f. Some f) (sym told)

  -- one whom no earlier row names
  pub meaning-new : line ≡ None → meaning candidates rows row ≡ None
  meaning-new free =
      meaning-is
      ∙ ap (option_map (λ (n : ℕ). duplicate_at Registrations row.0 1 n)) free

  -- one more row of such a candidate
  pub HasLines-next : line ≡ None
      → HasLines candidates (rows ++ row ∷ []) (slice_set lines index (Some fields.line))
  HasLines-next free =
      let place = position-Some (nat_eq (candidate_in row)) candidates index 0 found in
      record {
        distinct = has.distinct;
        lines_are = ap (λ (all : List (Option ℕ)). slice_set all index (Some fields.line))
            has.lines_are
            ∙ set-one (line_in rows) (line_in (rows ++ row ∷ [])) candidates index
            (candidate_in row) _ has.distinct place.0 candidate-there
            (ap (λ n. Some n) says.line
            ∙ sym (found-own candidate_in (λ (r : Row). r.0) rows row (sym line-is ∙ free)))
            (found-other candidate_in (λ (r : Row). r.0) rows row);
      }
