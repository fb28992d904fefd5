-- One more row adds its two numbers, and its rank to those of its type. The ranks of known
-- candidates among them are the standings of the type.
use Rattle.std.proofs.Common.{◌≡◌, ◌≢◌, ℕ, suc, ◌+◌, ◌*◌, ◌/◌, ◌%◌, ◌<◌, ◌≤◌, ◌==◌, List, [], ◌∷◌, ◌++◌, Bool, true, false, length, map, refl, sym, ap, ◌∙◌, arith, subst, ⊎_elim, Option, Some, None, bytes_eq, nat_eq, position, cond}
use Rattle.std.specs.Prelude.{slice_index_or, slice_set, filter, option_map}
use Rattle.std.specs.List.{cons_option}
use Rattle.std.proofs.Math.ListN.{length-set}
use Rattle.std.proofs.lemmas.Bool.{cases_Bool, cond_both}
use Rattle.std.proofs.lemmas.Bool.Decides.{nat_tests}
use Rattle.std.proofs.lemmas.List.{map-append, get_or-set_same, get_or-set_other}
use Rattle.std.proofs.lemmas.List.Elements.{filter-append}
use Rattle.record_files.specs.Rows.{Row}
use Rattle.rank_lists.specs.declared.keys.TheConstants.{INDEXES, NUMBERS}
use Rattle.place_base.specs.declared.limits.TheConstants.{LARGEST_NUMBER}
use Rattle.rank_lists.specs.Clean.{standing_key}
use Rattle.rank_lists.specs.Growth.{row_key, is_kind, in_kind, given_in, with_rank, HasRows}
use Rattle.rank_lists.specs.Groups.{candidate_group, rank_group}
use Rattle.rank_lists.specs.Rows.{candidate_in, type_in, rank_in, row_at}
use Rattle.rank_lists.specs.Table.{Standing, standing_of, standings, in_type}
use Rattle.rank_lists.specs.Turns.{known_key, known_keys}
use Rattle.rank_lists.specs.declared.rows.RankRows.{RankRows}
use Rattle.rank_lists.proofs.RowGroups.{HasFields}

-- a list with nothing behind it is the same
pub append-nothing : {X : Type 0} (xs : List X) → xs ++ [] ≡ xs
append-nothing [] = refl
append-nothing (x ∷ xs) = ap (λ ys. x ∷ ys) (append-nothing xs)

is-same : (a b : ℕ) → (a == b) ≡ true → a ≡ b
is-same a b h = grind (arith, nat_tests)

is-other : (a b : ℕ) → (a == b) ≡ false → b ≢ a
is-other a b h = grind (arith, nat_tests)

-- the row, where it is of the type
abbrev listed : Bool → Row → List Row
listed true row = row ∷ []
listed false row = []

-- the ranks of each type with one row more
keys-next : (given : List (List ℕ)) (o : Option ℕ) (row : Row) (keys : List ℕ) (kind : ℕ)
    → kind < length given → slice_index_or given kind [] ≡ keys
    → slice_index_or (with_rank given o (row_key row)) kind [] ≡ keys ++ map row_key
    (listed (is_kind kind o) row)
keys-next given None row keys kind lt h = h ∙ sym (append-nothing keys)
keys-next given (Some k) row keys kind lt h = ⊎_elim
    (λ (yes : (k == kind) ≡ true).
    let same : kind ≡ k = sym (is-same k kind yes) in
    let more : listed (k == kind) row ≡ row ∷ [] = rw yes refl in
    let here = get_or-set_same given kind (slice_index_or given kind [] ++ row_key row ∷ []) []
    lt in
    subst (λ j. slice_index_or (slice_set given j (slice_index_or given j [] ++ row_key row ∷ []))
    kind [] ≡ slice_index_or given kind [] ++ row_key row ∷ []) same here
    ∙ ap (λ ks. ks ++ row_key row ∷ []) h ∙ ap (λ rows. keys ++ map row_key rows) (sym more))
    (λ (no : (k == kind) ≡ false).
    let more : listed (k == kind) row ≡ [] = rw no refl in
    get_or-set_other given k kind (slice_index_or given k [] ++ row_key row ∷ []) []
    (is-other k kind no) ∙ h
    ∙ sym (append-nothing keys) ∙ ap (λ rows. keys ++ map row_key rows) (sym more))
    (cases_Bool (k == kind))

filter-one : (p : Row → Bool) (row : Row) → filter p (row ∷ []) ≡ listed (p row) row
filter-one p row = one (p row)
  where
    one : (b : Bool) → cond b (row ∷ []) [] ≡ listed b row
    one true = refl
    one false = refl

given_in-next : (names : List (List ℕ)) (kind : ℕ) (earlier : List Row) (row : Row)
    → given_in names kind (earlier ++ row ∷ []) ≡ given_in names kind earlier ++ map row_key
    (listed (in_kind names kind row) row)
given_in-next names kind earlier row =
    ap (map row_key) (filter-append (in_kind names kind) earlier (row ∷ []))
    ∙ map-append row_key (filter (in_kind names kind) earlier)
    (filter (in_kind names kind) (row ∷ []))
    ∙ ap (λ rows. given_in names kind earlier ++ map row_key rows)
    (filter-one (in_kind names kind) row)

-- a rank more leaves as many types
pub length-with_rank : (given : List (List ℕ)) (o : Option ℕ) (key : ℕ)
    → length (with_rank given o key) ≡ length given
length-with_rank given None key = refl
length-with_rank given (Some k) key = length-set given k _

-- a row is added
pub HasRows-next : (names : List (List ℕ)) (earlier : List Row) (row : Row) (old new : RankRows)
    → HasRows names earlier old
    → new.candidates ≡ old.candidates ++ candidate_group row ∷ []
    → new.ranks ≡ old.ranks ++ rank_group row ∷ []
    → new.given.items ≡ with_rank old.given.items (position (bytes_eq (type_in row)) names)
    (row_key row)
    → HasRows names (earlier ++ row ∷ []) new
HasRows-next names earlier row old new h candidates ranks given = record {
  candidates = candidates ∙ ap (λ xs. xs ++ candidate_group row ∷ []) h.candidates
      ∙ sym (map-append candidate_group earlier (row ∷ []));
  ranks = ranks ∙ ap (λ xs. xs ++ rank_group row ∷ []) h.ranks
      ∙ sym (map-append rank_group earlier (row ∷ []));
  types = ap length given ∙ length-with_rank old.given.items
      (position (bytes_eq (type_in row)) names) (row_key row) ∙ h.types;
  given = λ kind lt.
      ap (λ xs. slice_index_or xs kind []) given
      ∙ keys-next old.given.items (position (bytes_eq (type_in row)) names) row
      (given_in names kind earlier) kind (omega (arith, h.types)) (h.given kind lt)
      ∙ sym (given_in-next names kind earlier row);
}

module _ (names : List (List ℕ)) (numbers : List ℕ) (kind : ℕ) where
  -- one row more in front
  front : (type candidate : Option ℕ) (row : Row) (rows : List Row) (ss : List Standing)
      → known_key numbers (row_key row) ≡ option_map (λ index. rank_in row * INDEXES + index)
      candidate
      → known_keys numbers (map row_key rows) ≡ map standing_key (in_type kind ss)
      → known_keys numbers (map row_key (cond (is_kind kind type) (row ∷ rows) rows))
      ≡ map standing_key (in_type kind (cons_option (standing_of type candidate (rank_in row)) ss))
  front None candidate row rows ss known rest = rest
  front (Some k) None row rows ss known rest = cond_both (k == kind) (row ∷ rows) rows
      (λ all. known_keys numbers (map row_key all) ≡ map standing_key (in_type kind ss))
      (λ yes. ap (λ o. cons_option o (known_keys numbers (map row_key rows))) known ∙ rest)
      (λ no. rest)
  front (Some k) (Some index) row rows ss known rest = ⊎_elim
      (λ (yes : (k == kind) ≡ true).
      let s : Standing = record { kind = k; candidate = index; rank = rank_in row } in
      let left : cond (k == kind) (row ∷ rows) rows ≡ row ∷ rows = rw yes refl in
      let right : in_type kind (s ∷ ss) ≡ s ∷ in_type kind ss = rw yes refl in
      ap (λ all. known_keys numbers (map row_key all)) left
      ∙ ap (λ o. cons_option o (known_keys numbers (map row_key rows))) known
      ∙ ap (λ keys. standing_key s ∷ keys) rest ∙ sym (ap (map standing_key) right))
      (λ (no : (k == kind) ≡ false).
      let s : Standing = record { kind = k; candidate = index; rank = rank_in row } in
      let left : cond (k == kind) (row ∷ rows) rows ≡ rows = rw no refl in
      let right : in_type kind (s ∷ ss) ≡ in_type kind ss = rw no refl in
      ap (λ all. known_keys numbers (map row_key all)) left ∙ rest
      ∙ sym (ap (map standing_key) right))
      (cases_Bool (k == kind))

  -- the key of a row within the limits
  known-row : (row : Row) → HasFields row
      → known_key numbers (row_key row) ≡ option_map (λ index. rank_in row * INDEXES + index)
      (position (nat_eq (candidate_in row)) numbers)
  known-row row h =
      let limit : candidate_in row ≤ LARGEST_NUMBER = h.candidate in
      let number : row_key row % NUMBERS ≡ candidate_in row = omega arith in
      let rank : row_key row / NUMBERS ≡ rank_in row = omega arith in
      ap (λ n. option_map (λ index. n * INDEXES + index)
      (position (nat_eq (row_key row % NUMBERS)) numbers)) rank
      ∙ ap (λ n. option_map (λ index. rank_in row * INDEXES + index)
      (position (nat_eq n) numbers)) number

  -- the ranks of known candidates that rows give in a type are the type's standings
  pub known-given : (rows : List Row) → ((k : ℕ) → k < length rows → HasFields (row_at rows k))
      → known_keys numbers (given_in names kind rows)
      ≡ map standing_key (in_type kind (standings names numbers rows))
  known-given [] h = refl
  known-given (row ∷ rows) h =
      front (position (bytes_eq (type_in row)) names) (position (nat_eq (candidate_in row)) numbers)
      row (filter (in_kind names kind) rows) (standings names numbers rows)
      (known-row row (h 0 (omega arith)))
      (known-given rows (λ k lt. h (suc k) (omega arith)))
