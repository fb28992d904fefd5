-- Rows that repeat neither a candidate nor a rank in a type give standings with distinct
-- candidates and distinct ranks in each type.
use Rattle.std.proofs.Common.{◌≡◌, ◌≢◌, ℕ, suc, ◌<◌, ◌≤◌, ◌==◌, List, [], ◌∷◌, true, length, map, refl, sym, ap, ◌∙◌, arith, ⊎_elim, Option, Some, None, nat_eq, bytes_eq, position}
use Rattle.std.specs.Prelude.{slice_index, slice_index_or}
use Rattle.std.specs.List.{cons_option}
use Rattle.std.proofs.lemmas.Bool.{cond_both}
use Rattle.std.proofs.lemmas.Bool.Decides.{nat_tests}
use Rattle.std.proofs.lemmas.List.{get_or-map}
use Rattle.std.proofs.lemmas.List.Quantifiers.{position-Some}
use Rattle.std.proofs.lemmas.Slice.Eq.{bytes_eq-Decides}
use Rattle.record_files.specs.Rows.{Row}
use Rattle.rank_lists.specs.Groups.{name_number, candidate_group, rank_group}
use Rattle.rank_lists.specs.Rows.{candidate_in, type_in, rank_in}
use Rattle.rank_lists.specs.Table.{Standing, standing_of, standing_in, standings, in_type}
use Rattle.rank_lists.specs.Repeats.{HasNoRepeat}
use Rattle.rank_lists.specs.Rows.{row_at}
use Rattle.market.proofs.Copies.{copies, one_if, one_if-same, one_if-other, one_if-cases}
use Rattle.rank_lists.proofs.Standings.{Each}

module _ (names : List (List ℕ)) (numbers : List ℕ) where
  -- where the standing of a row comes from
  pub record Comes (row : Row) (s : Standing) : Type 0 where
    pub kind : position (bytes_eq (type_in row)) names ≡ Some s.kind
    pub candidate : position (nat_eq (candidate_in row)) numbers ≡ Some s.candidate
    pub rank : s.rank ≡ rank_in row

  comes : (kind candidate : Option ℕ) (rank : ℕ) (s : Standing)
      → standing_of kind candidate rank ≡ Some s
      → (kind ≡ Some s.kind) × (candidate ≡ Some s.candidate) × (s.rank ≡ rank)
  comes None candidate rank s h = absurd (cc)
  comes (Some kind) None rank s h = absurd (cc)
  comes (Some kind) (Some candidate) rank s h =
      let same : record { kind = kind; candidate = candidate; rank = rank } ≡ s = cc in
      (ap (λ t. Some t.kind) same, ap (λ t. Some t.candidate) same, sym (ap (λ t. t.rank) same))

  -- the standing that a row gives comes from it
  pub Comes-from : (row : Row) (s : Standing) → standing_in names numbers row ≡ Some s → Comes row s
  Comes-from row s h =
      let parts = comes (position (bytes_eq (type_in row)) names)
      (position (nat_eq (candidate_in row)) numbers) (rank_in row) s h in
      record { kind = parts.0; candidate = parts.1; rank = parts.2 }

  -- a known candidate is below the number of candidates
  pub Comes-candidate : (row : Row) (s : Standing) → Comes row s → s.candidate < length numbers
  Comes-candidate row s c =
      (position-Some (nat_eq (candidate_in row)) numbers s.candidate 0 c.candidate).0

  same-name : (row other : Row) (k : ℕ) → position (bytes_eq (type_in row)) names ≡ Some k
      → position (bytes_eq (type_in other)) names ≡ Some k → type_in row ≡ type_in other
  same-name row other k g h =
      let here = (position-Some (bytes_eq (type_in row)) names k [] g).1 in
      let there = (position-Some (bytes_eq (type_in other)) names k [] h).1 in
      (bytes_eq-Decides (type_in row) (slice_index_or names k [])).0 here
      ∙ sym ((bytes_eq-Decides (type_in other) (slice_index_or names k [])).0 there)

  true-eq : (a b : ℕ) → nat_eq a b ≡ true → a ≡ b
  true-eq a b h = grind (arith, nat_tests)

  same-number : (row other : Row) (k : ℕ) → position (nat_eq (candidate_in row)) numbers ≡ Some k
      → position (nat_eq (candidate_in other)) numbers ≡ Some k
      → candidate_in row ≡ candidate_in other
  same-number row other k g h =
      let here = (position-Some (nat_eq (candidate_in row)) numbers k 0 g).1 in
      let there = (position-Some (nat_eq (candidate_in other)) numbers k 0 h).1 in
      true-eq (candidate_in row) (slice_index numbers k) here
      ∙ sym (true-eq (candidate_in other) (slice_index numbers k) there)

  -- standings of one candidate in one type come from rows of one group
  candidate-group : (row other : Row) (s t : Standing) → Comes row s → Comes other t
      → s.kind ≡ t.kind → s.candidate ≡ t.candidate → candidate_group row ≡ candidate_group other
  candidate-group row other s t g h kinds same =
      let name : name_number (type_in row) ≡ name_number (type_in other) =
      ap name_number (same-name row other t.kind (g.kind ∙ ap (λ k. Some k) kinds) h.kind) in
      let number : candidate_in row ≡ candidate_in other =
      same-number row other t.candidate (g.candidate ∙ ap (λ k. Some k) same) h.candidate in
      omega arith

  rank-group : (row other : Row) (s t : Standing) → Comes row s → Comes other t → s.kind ≡ t.kind
      → s.rank ≡ t.rank → rank_group row ≡ rank_group other
  rank-group row other s t g h kinds same =
      let name : name_number (type_in row) ≡ name_number (type_in other) =
      ap name_number (same-name row other t.kind (g.kind ∙ ap (λ k. Some k) kinds) h.kind) in
      let rank : rank_in row ≡ rank_in other = sym g.rank ∙ same ∙ h.rank in
      omega arith

  module _ (f : Standing → ℕ) (group : Row → ℕ) (kind : ℕ)
      (grouped : (row other : Row) (s t : Standing) → Comes row s → Comes other t → s.kind ≡ t.kind
      → f s ≡ f t → group row ≡ group other) where
    -- the numbers of the standings in the type
    abbrev of_rows : List Row → List ℕ
    of_rows rows = map f (in_type kind (standings names numbers rows))

    -- one row more in front
    abbrev in_front : Option Standing → List Standing → List ℕ
    in_front o ss = map f (in_type kind (cons_option o ss))

    is-kind : (a b : ℕ) → (a == b) ≡ true → a ≡ b
    is-kind a b h = grind (arith, nat_tests)

    -- a number that no row gives
    none-of : (x : ℕ) (rows : List Row)
        → ((k : ℕ) (t : Standing) → k < length rows → Comes (row_at rows k) t → t.kind ≡ kind
        → f t ≢ x) → copies x (of_rows rows) ≡ 0
    none-of x [] h = refl
    none-of x (row ∷ rows) h =
        let rest : copies x (of_rows rows) ≡ 0 =
        none-of x rows (λ k t lt c. h (suc k) t (omega arith) c) in
        front (standing_in names numbers row) refl rest
      where
        front : (o : Option Standing) → standing_in names numbers row ≡ o
            → copies x (of_rows rows) ≡ 0 → copies x (in_front o (standings names numbers rows)) ≡ 0
        front None e rest = rest
        front (Some s) e rest = cond_both (s.kind == kind)
            (s ∷ in_type kind (standings names numbers rows))
            (in_type kind (standings names numbers rows))
            (λ ss. copies x (map f ss) ≡ 0)
            (λ yes.
            let other : one_if x (f s) ≡ 0 =
            one_if-other x (f s) (λ same. h 0 s (omega arith) (Comes-from row s e)
            (is-kind s.kind kind yes) (sym same)) in
            omega arith)
            (λ no. rest)

    -- no number stands twice where no group does
    pub once-of : (x : ℕ) (rows : List Row) → HasNoRepeat (map group rows) (length rows)
        → copies x (of_rows rows) ≤ 1
    once-of x [] h = omega arith
    once-of x (row ∷ rows) h =
        let rest : copies x (of_rows rows) ≤ 1 =
        once-of x rows (λ i j below lt. h (suc i) (suc j) (omega arith) (omega arith)) in
        front (standing_in names numbers row) refl rest
      where
        apart : (s : Standing) → standing_in names numbers row ≡ Some s → s.kind ≡ kind → x ≡ f s
            → copies x (of_rows rows) ≡ 0
        apart s e kinds same = none-of x rows (λ k t lt c other equal.
            let groups : group row ≡ group (row_at rows k) =
            grouped row (row_at rows k) s t (Comes-from row s e) c (kinds ∙ sym other)
            (sym same ∙ sym equal) in
            h 0 (suc k) (omega arith) (omega arith)
            (groups ∙ sym (get_or-map group rows k (0, []) 0 lt)))

        front : (o : Option Standing) → standing_in names numbers row ≡ o
            → copies x (of_rows rows) ≤ 1 → copies x (in_front o (standings names numbers rows)) ≤ 1
        front None e rest = rest
        front (Some s) e rest = cond_both (s.kind == kind)
            (s ∷ in_type kind (standings names numbers rows))
            (in_type kind (standings names numbers rows))
            (λ ss. copies x (map f ss) ≤ 1)
            (λ yes. ⊎_elim
            (λ (other : one_if x (f s) ≡ 0). omega arith)
            (λ (same : x ≡ f s).
            let none : copies x (of_rows rows) ≡ 0 = apart s e (is-kind s.kind kind yes) same in
            let one : one_if x (f s) ≡ 1 = one_if-same x (f s) same in
            omega arith)
            (one_if-cases x (f s)))
            (λ no. rest)

  -- no candidate stands twice in a type
  pub candidates-once : (kind x : ℕ) (rows : List Row)
      → HasNoRepeat (map candidate_group rows) (length rows)
      → copies x (map (λ s. s.candidate) (in_type kind (standings names numbers rows))) ≤ 1
  candidates-once kind x rows h =
      once-of (λ s. s.candidate) candidate_group kind candidate-group x rows h

  -- no rank stands twice in a type
  pub ranks-once : (kind x : ℕ) (rows : List Row) → HasNoRepeat (map rank_group rows) (length rows)
      → copies x (map (λ s. s.rank) (in_type kind (standings names numbers rows))) ≤ 1
  ranks-once kind x rows h = once-of (λ s. s.rank) rank_group kind rank-group x rows h

  -- what holds of each standing of a row holds of the standings of a type
  pub standings-Each : (P : Standing → Type 0) (kind : ℕ) (rows : List Row)
      → ((k : ℕ) (s : Standing) → k < length rows → Comes (row_at rows k) s → P s)
      → Each P (in_type kind (standings names numbers rows))
  standings-Each P kind [] h = tt
  standings-Each P kind (row ∷ rows) h =
      front (standing_in names numbers row) refl
      (standings-Each P kind rows (λ k s lt c. h (suc k) s (omega arith) c))
    where
      front : (o : Option Standing) → standing_in names numbers row ≡ o
          → Each P (in_type kind (standings names numbers rows))
          → Each P (in_type kind (cons_option o (standings names numbers rows)))
      front None e rest = rest
      front (Some s) e rest = cond_both (s.kind == kind)
          (s ∷ in_type kind (standings names numbers rows))
          (in_type kind (standings names numbers rows))
          (Each P)
          (λ yes. (h 0 s (omega arith) (Comes-from row s e), rest))
          (λ no. rest)
