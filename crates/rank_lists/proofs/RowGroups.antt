-- A row without a fault of its own has a candidate, a type name and a rank within their limits,
-- so two such rows are in the same group exactly where the tests for duplicates say so.
use Rattle.std.proofs.Common.{◌≡◌, ℕ, ◌≤◌, ◌==◌, ◌&&◌, List, true, nat_le, ap, arith, bytes_eq, refl, None, Result, Ok, Err}
use Rattle.std.proofs.lemmas.Bool.{cond_both, and_parts}
use Rattle.std.proofs.lemmas.Bool.Decides.{nat_tests}
use Rattle.std.proofs.lemmas.Slice.Eq.{bytes_eq-Decides}
use Rattle.place_base.specs.TypeName.{is_type_name}
use Rattle.place_base.specs.declared.fault.FaultKind.{FaultKind}
use Rattle.place_base.specs.declared.fault.FaultKind.TheVariants.{NotNumber, OutOfRange, BadTypeName}
use Rattle.place_base.specs.declared.fault.FileKind.{FileKind}
use Rattle.place_base.specs.declared.fault.FileKind.TheVariants.{Ranks}
use Rattle.record_files.specs.FirstFaults.{reading_fault}
use Rattle.record_files.specs.Numbers.{value, is_number, number_of, type_name_of}
use Rattle.record_files.specs.Rows.{Row, field_at}
use Rattle.record_files.proofs.FirstFaultLemmas.{first_of-none}
use Rattle.place_base.specs.declared.limits.TheConstants.{LARGEST_NUMBER, LARGEST_RANK}
use Rattle.rank_lists.specs.Groups.{name_number, candidate_group, rank_group}
use Rattle.rank_lists.specs.Rows.{candidate_in, type_in, rank_in, reading, same_candidate, same_rank}
use Rattle.rank_lists.proofs.Names.{IsName, IsName-from, IsName-same}

-- the parts of a row are within their limits
pub record HasFields (row : Row) : Type 0 where
  pub candidate : candidate_in row ≤ LARGEST_NUMBER
  pub name : IsName (type_in row)
  pub low : 1 ≤ rank_in row
  pub rank : rank_in row ≤ LARGEST_RANK

number-read : (file : FileKind) (line field : ℕ) (text : List ℕ) (low high : ℕ)
    → reading_fault file line field (number_of text low high) ≡ None
    → (low ≤ value text) × (value text ≤ high)
number-read file line field text low high =
    let P : Result ℕ FaultKind → Type 0 = λ r. reading_fault file line field r ≡ None
    → (low ≤ value text) × (value text ≤ high) in
    cond_both (is_number text) _ (Err NotNumber) P
    (λ yes. cond_both (nat_le low (value text) && nat_le (value text) high) (Ok (value text))
    (Err OutOfRange) P
    (λ inside none. between low (value text) high inside)
    (λ outside none. absurd (cc)))
    (λ no none. absurd (cc))
  where
    between : (low v high : ℕ) → (nat_le low v && nat_le v high) ≡ true → (low ≤ v) × (v ≤ high)
    between low v high h = (grind (arith, nat_tests), grind (arith, nat_tests))

name-read : (file : FileKind) (line field : ℕ) (text : List ℕ)
    → reading_fault file line field (type_name_of text) ≡ None → IsName text
name-read file line field text =
    let P : Result (List ℕ) FaultKind → Type 0 = λ r. reading_fault file line field r ≡ None
    → IsName text in
    cond_both (is_type_name text) (Ok text) (Err BadTypeName) P
    (λ yes none. IsName-from text yes)
    (λ no none. absurd (cc))

-- the parts of a row are so where reading it found no fault
pub HasFields-from : (row : Row) → reading row ≡ None → HasFields row
HasFields-from row h =
    let parts = first_of-none _ _ h in
    let later = first_of-none _ _ parts.1 in
    let candidate = number-read Ranks row.0 1 (field_at row 0) 1 LARGEST_NUMBER parts.0 in
    let rank = number-read Ranks row.0 3 (field_at row 2) 1 LARGEST_RANK later.1 in
    record {
      candidate = candidate.1;
      name = name-read Ranks row.0 2 (field_at row 1) later.0;
      low =
          rank.0;
      rank = rank.1;
    }

-- where the test holds, the numbers and the names of two rows are the same
test-same : (f : Row → ℕ) (row other : Row)
    → (f row == f other && bytes_eq (type_in row) (type_in other)) ≡ true
    → (f row ≡ f other) × (name_number (type_in row) ≡ name_number (type_in other))
test-same f row other h =
    let parts = and_parts (f row == f other) (bytes_eq (type_in row) (type_in other)) h in (
      grind (arith, nat_tests, parts.0),
      ap name_number ((bytes_eq-Decides (type_in row) (type_in other)).0 parts.1),
    )

-- and it holds where they are, since names of one number are equal
same-test : (f : Row → ℕ) (row other : Row) → HasFields row → HasFields other → f row ≡ f other
    → name_number (type_in row) ≡ name_number (type_in other)
    → (f row == f other && bytes_eq (type_in row) (type_in other)) ≡ true
same-test f row other g h e names =
    let number : (f row == f other) ≡ true = grind (arith, nat_tests) in
    let name = (bytes_eq-Decides (type_in row) (type_in other)).1
    (IsName-same _ _ g.name h.name names) in
    rw (number, name) refl

-- rows that rank the same candidate in the same type are in one group
pub candidate_group-same : (row other : Row) → same_candidate row other ≡ true
    → candidate_group other ≡ candidate_group row
candidate_group-same row other h =
    let same = test-same candidate_in row other h in
    omega (arith, same.0, same.1)

-- and rows that give the same rank in the same type are in one group of ranks
pub rank_group-same : (row other : Row) → same_rank row other ≡ true
    → rank_group other ≡ rank_group row
rank_group-same row other h =
    let same = test-same rank_in row other h in
    omega (arith, same.0, same.1)

-- rows of one group rank the same candidate in the same type
pub same_candidate-group : (row other : Row) → HasFields row → HasFields other
    → candidate_group other ≡ candidate_group row → same_candidate row other ≡ true
same_candidate-group row other g h e =
    same-test candidate_in row other g h (omega (arith, g.candidate, h.candidate))
    (omega (arith, g.candidate, h.candidate))

-- and rows of one group of ranks give the same rank in the same type
pub same_rank-group : (row other : Row) → HasFields row → HasFields other
    → rank_group other ≡ rank_group row → same_rank row other ≡ true
same_rank-group row other g h e =
    same-test rank_in row other g h (omega (arith, g.rank, h.rank))
    (omega (arith, g.rank, h.rank))
