-- One more row adds the rank that it gives a known candidate in a known type to those of the type.
use Rattle.std.proofs.Common.{◌≡◌, ◌≢◌, ℕ, ◌+◌, ◌*◌, ◌<◌, ◌==◌, List, [], ◌∷◌, ◌++◌, Bool, true, false, IsSome, cond, length, map, refl, sym, ap, ◌∙◌, arith, subst, ⊎_elim, Option, Some, None, bytes_eq, nat_eq, position}
use Rattle.std.specs.Prelude.{slice_index_or, slice_set}
use Rattle.std.specs.List.{cons_option}
use Rattle.std.proofs.lemmas.Bool.{cases_Bool}
use Rattle.std.proofs.lemmas.Bool.Decides.{nat_tests}
use Rattle.std.proofs.lemmas.List.{append-nil, get_or-set_other, get_or-set_same, map-append}
use Rattle.std.proofs.lemmas.List.Elements.{All-push, filter-append, filter_map-append}
use Rattle.record_files.specs.Rows.{Row}
use Rattle.rank_lists.specs.Clean.{HasStandings, standing_key}
use Rattle.rank_lists.specs.Growth.{with_rank}
use Rattle.rank_lists.specs.Rows.{candidate_in, type_in, rank_in}
use Rattle.rank_lists.specs.Table.{Standing, in_type, standing_in, standing_of, standings}
use Rattle.rank_lists.specs.declared.keys.TheConstants.{INDEXES}
use Rattle.rank_lists.specs.declared.part_ranks.PartRanks.{PartRanks}
use Rattle.rank_lists.proofs.Gathering.{length-with_rank}

is-same : (a b : ℕ) → (a == b) ≡ true → a ≡ b
is-same a b h = grind (arith, nat_tests)

is-other : (a b : ℕ) → (a == b) ≡ false → b ≢ a
is-other a b h = grind (arith, nat_tests)

-- the ranks of each type with one more in one of them
given-next : (given : List (List ℕ)) (k key : ℕ) (keys : List ℕ) (kind : ℕ) → kind < length given
    → slice_index_or given kind [] ≡ keys
    → slice_index_or (with_rank given (Some k) key) kind [] ≡ keys ++ cond (k == kind) (key ∷ []) []
given-next given k key keys kind lt h = ⊎_elim
    (λ (yes : (k == kind) ≡ true).
    let same : kind ≡ k = sym (is-same k kind yes) in
    let more : cond (k == kind) (key ∷ []) [] ≡ key ∷ [] = rw yes refl in
    subst (λ j. slice_index_or (slice_set given j (slice_index_or given j [] ++ key ∷ [])) kind []
    ≡ slice_index_or given kind [] ++ key ∷ []) same
    (get_or-set_same given kind (slice_index_or given kind [] ++ key ∷ []) [] lt)
    ∙ ap (λ ks. ks ++ key ∷ []) h ∙ ap (λ added. keys ++ added) (sym more))
    (λ (no : (k == kind) ≡ false).
    let more : cond (k == kind) (key ∷ []) [] ≡ [] = rw no refl in
    get_or-set_other given k kind (slice_index_or given k [] ++ key ∷ []) [] (is-other k kind no)
    ∙ h ∙ sym (append-nil keys) ∙ ap (λ added. keys ++ added) (sym more))
    (cases_Bool (k == kind))

-- the keys of a standing in a type
keys-one : (kind : ℕ) (s : Standing)
    → map standing_key (in_type kind (s ∷ [])) ≡ cond (s.kind == kind) (standing_key s ∷ []) []
keys-one kind s = by (s.kind == kind)
  where
    by : (t : Bool) → map standing_key (cond t (s ∷ []) []) ≡ cond t (standing_key s ∷ []) []
    by true = refl
    by false = refl

module _ (names : List (List ℕ)) (numbers : List ℕ) (earlier : List Row) (row : Row) where
  -- the keys of a type with one more row
  keys-next : (kind : ℕ) (o : Option Standing) → standing_in names numbers row ≡ o
      → map standing_key (in_type kind (standings names numbers (earlier ++ row ∷ [])))
      ≡ map standing_key (in_type kind (standings names numbers earlier))
      ++ map standing_key (in_type kind (cons_option o []))
  keys-next kind o e =
      let first = standings names numbers earlier in
      ap (λ ss. map standing_key (in_type kind ss))
      (filter_map-append (standing_in names numbers) earlier (row ∷ [])
      ∙ ap (λ found. first ++ cons_option found []) e)
      ∙ ap (map standing_key) (filter-append (λ s. s.kind == kind) first (cons_option o []))
      ∙ map-append standing_key (in_type kind first) (in_type kind (cons_option o []))

  -- a row of a known candidate in a known type
  pub HasStandings-known : (old new : PartRanks) (k index : ℕ)
      → HasStandings names numbers earlier old
      → position (bytes_eq (type_in row)) names ≡ Some k
      → position (nat_eq (candidate_in row)) numbers ≡ Some index
      → new.given.items ≡ with_rank old.given.items (Some k) (rank_in row * INDEXES + index)
      → new.unknown ≡ old.unknown → new.index ≡ position (nat_eq new.number) numbers
      → HasStandings names numbers (earlier ++ row ∷ []) new
  HasStandings-known old new k index h type candidate given unknown last =
      let s : Standing = record { kind = k; candidate = index; rank = rank_in row } in
      let one : standing_in names numbers row ≡ Some s =
      λ j. standing_of (type j) (candidate j) (rank_in row) in
      let types = h.types in
      record {
        types = ap length given
            ∙ length-with_rank old.given.items (Some k) (rank_in row * INDEXES + index) ∙ h.types;
        given = λ kind lt. ap (λ all. slice_index_or all kind []) given
            ∙ given-next old.given.items k (rank_in row * INDEXES + index)
            (map standing_key (in_type kind (standings names numbers earlier))) kind (omega arith)
            (h.given kind lt)
            ∙ ap (λ keys. map standing_key (in_type kind (standings names numbers earlier)) ++ keys)
            (sym (keys-one kind s)) ∙ sym (keys-next kind (Some s) one);
        known = λ clear. All-push (λ row. IsSome (standing_in names numbers row)) earlier row
            (h.known (sym unknown ∙ clear)) (subst (λ o. IsSome o) (sym one) refl);
        last = last;
      }

  -- a row of an unknown type or candidate
  pub HasStandings-unknown : (old new : PartRanks) → HasStandings names numbers earlier old
      → standing_in names numbers row ≡ None → new.given ≡ old.given → new.unknown ≡ true
      → new.index ≡ position (nat_eq new.number) numbers
      → HasStandings names numbers (earlier ++ row ∷ []) new
  HasStandings-unknown old new h none given unknown last = record {
    types = ap (λ all. length all.items) given ∙ h.types;
    given = λ kind lt. ap (λ all. slice_index_or all.items kind []) given ∙ h.given kind lt
        ∙ sym (append-nil (map standing_key (in_type kind (standings names numbers earlier))))
        ∙ sym (keys-next kind None none);
    known = λ clear. absurd (cc);
    last = last;
  }
