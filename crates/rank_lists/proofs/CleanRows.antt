-- Where no candidate and no rank stands twice in a type, no two rows of known types and candidates
-- are of one group.
use Rattle.std.proofs.Common.{◌≡◌, ℕ, zero, suc, ◌+◌, ◌<◌, ◌≤◌, ◌==◌, List, [], ◌∷◌, All, true, false, IsSome, if◌then◌else◌, length, map, refl, sym, ap, ◌∙◌, arith, ⊎_elim, Option, Some, None, bytes_eq, nat_eq, position, zero-add}
use Rattle.std.specs.Prelude.{slice_index}
use Rattle.std.specs.List.{cons_option}
use Rattle.std.proofs.lemmas.Bool.{and_parts}
use Rattle.std.proofs.lemmas.Bool.Decides.{nat_tests}
use Rattle.std.proofs.lemmas.List.{get_or-map}
use Rattle.std.proofs.lemmas.List.Quantifiers.{position-Some}
use Rattle.std.proofs.lemmas.Slice.Eq.{bytes_eq-Decides}
use Rattle.market.specs.Problems.{HasNoRepeats}
use Rattle.record_files.specs.Rows.{Row}
use Rattle.rank_lists.specs.Groups.{candidate_group, rank_group}
use Rattle.rank_lists.specs.Repeats.{HasNoRepeat}
use Rattle.rank_lists.specs.Rows.{candidate_in, type_in, rank_in, row_at}
use Rattle.rank_lists.specs.Table.{Standing, in_type, standing_in, standings}
use Rattle.market.proofs.Copies.{copies, copies-none, one_if, one_if-cases, one_if-same}
use Rattle.rank_lists.proofs.Ranking.{Comes-from}
use Rattle.rank_lists.proofs.RowGroups.{HasFields, same_candidate-group, same_rank-group}

-- where no number repeats an earlier one, each stands once
pub copies-once : (x : ℕ) (ys : List ℕ) → HasNoRepeats ys → copies x ys ≤ 1
copies-once x [] h = omega arith
copies-once x (y ∷ ys) h =
    let rest : copies x ys ≤ 1 =
    copies-once x ys (λ i j below lt. h (suc i) (suc j) (omega arith) (omega arith)) in
    ⊎_elim
    (λ (other : one_if x y ≡ 0). omega arith)
    (λ (same : x ≡ y).
    let none : copies x ys ≡ 0 =
    copies-none x ys (λ k lt e. h 0 (suc k) (omega arith) (omega arith) (sym same ∙ sym e)) in
    let here : one_if x y ≡ 1 = one_if-same x y same in
    omega arith)
    (one_if-cases x y)

is-equal : (a b : ℕ) → a ≡ b → (a == b) ≡ true
is-equal a b e = grind (arith, nat_tests)

equal : (a b : ℕ) → (a == b) ≡ true → a ≡ b
equal a b h = grind (arith, nat_tests)

module _ (names : List (List ℕ)) (numbers : List ℕ) (f : Standing → ℕ) (x kind : ℕ) where
  -- how often the number stands in the standing that a row may give
  abbrev adds : Option Standing → ℕ
  adds None = 0
  adds (Some s) = if s.kind == kind then one_if x (f s) else 0

  -- and in those of some rows
  abbrev total : List Row → ℕ
  total [] = 0
  total (row ∷ rows) = adds (standing_in names numbers row) + total rows

  copies-front : (o : Option Standing) (ss : List Standing)
      → copies x (map f (in_type kind (cons_option o ss)))
      ≡ adds o + copies x (map f (in_type kind ss))
  copies-front None ss = sym (zero-add (copies x (map f (in_type kind ss))))
  copies-front (Some s) ss = elim (s.kind == kind) as
      (λ t. copies x (map f (if t then s ∷ in_type kind ss else in_type kind ss))
      ≡ (if t then one_if x (f s) else 0) + copies x (map f (in_type kind ss)))
      [ true ↦ refl | false ↦ sym (zero-add (copies x (map f (in_type kind ss)))) ]

  copies-total : (rows : List Row) → copies x (map f (in_type kind (standings names numbers rows)))
      ≡ total rows
  copies-total [] = refl
  copies-total (row ∷ rows) =
      copies-front (standing_in names numbers row) (standings names numbers rows)
      ∙ ap (λ n. adds (standing_in names numbers row) + n) (copies-total rows)

  total-one : (rows : List Row) (j : ℕ) → j < length rows
      → adds (standing_in names numbers (row_at rows j)) ≤ total rows
  total-one [] j lt = absurd (omega arith)
  total-one (row ∷ rows) zero lt = omega arith
  total-one (row ∷ rows) (suc j) lt =
      let rest : adds (standing_in names numbers (row_at rows j)) ≤ total rows =
      total-one rows j (omega arith) in
      omega arith

  total-two : (rows : List Row) (i j : ℕ) → i < j → j < length rows
      → adds (standing_in names numbers (row_at rows i))
      + adds (standing_in names numbers (row_at rows j)) ≤ total rows
  total-two [] i j below lt = absurd (omega arith)
  total-two (row ∷ rows) i zero below lt = absurd (omega arith)
  total-two (row ∷ rows) zero (suc j) below lt =
      let rest : adds (standing_in names numbers (row_at rows j)) ≤ total rows =
      total-one rows j (omega arith) in
      omega arith
  total-two (row ∷ rows) (suc i) (suc j) below lt =
      let rest : adds (standing_in names numbers (row_at rows i))
      + adds (standing_in names numbers (row_at rows j)) ≤ total rows =
      total-two rows i j (omega arith) (omega arith) in
      omega arith

  adds-one : (o : Option Standing) (s : Standing) → o ≡ Some s → s.kind ≡ kind → f s ≡ x
      → adds o ≡ 1
  adds-one o s e k same =
      let here : (s.kind == kind) ≡ true = is-equal s.kind kind k in
      ap adds e ∙ rw here (one_if-same x (f s) (sym same))

  -- two rows that give the number in the type
  twice : (rows : List Row) (i j : ℕ) (s t : Standing) → i < j → j < length rows
      → standing_in names numbers (row_at rows i) ≡ Some s
      → standing_in names numbers (row_at rows j) ≡ Some t → s.kind ≡ kind → t.kind ≡ kind
      → f s ≡ x → f t ≡ x → 2 ≤ copies x (map f (in_type kind (standings names numbers rows)))
  twice rows i j s t below lt e e' k k' same same' =
      let first = adds-one (standing_in names numbers (row_at rows i)) s e k same in
      let second = adds-one (standing_in names numbers (row_at rows j)) t e' k' same' in
      let two = total-two rows i j below lt in
      let whole = copies-total rows in
      omega arith

some-of : (o : Option Standing) → IsSome o → (s : Standing) × (o ≡ Some s)
some-of (Some s) h = (s, refl)
some-of None h = absurd (cc h)

same-some : {X : Type 0} (a b : X) → Some a ≡ Some b → a ≡ b
same-some a b e = cc

module _ (names : List (List ℕ)) (numbers : List ℕ) (rows : List Row)
    (fields : (k : ℕ) → k < length rows → HasFields (row_at rows k))
    (known : All (λ row. IsSome (standing_in names numbers row)) rows) where
  -- the standing of a row
  standing-at : (k : ℕ) → k < length rows
      → (s : Standing) × (standing_in names numbers (row_at rows k) ≡ Some s)
  standing-at k lt = some-of (standing_in names numbers (row_at rows k)) (known k (0, []) lt)

  group-at : (group : Row → ℕ) (k : ℕ) → k < length rows
      → slice_index (map group rows) k ≡ group (row_at rows k)
  group-at group k lt = get_or-map group rows k (0, []) 0 lt

  -- rows of one type have one kind
  same-kind : (i j : ℕ) (s t : Standing) → standing_in names numbers (row_at rows i) ≡ Some s
      → standing_in names numbers (row_at rows j) ≡ Some t
      → bytes_eq (type_in (row_at rows j)) (type_in (row_at rows i)) ≡ true
      → (s.kind ≡ t.kind) × (t.kind < length names)
  same-kind i j s t e e' same =
      let text = (bytes_eq-Decides (type_in (row_at rows j)) (type_in (row_at rows i))).0 same in
      let first = Comes-from names numbers (row_at rows i) s e in
      let second = Comes-from names numbers (row_at rows j) t e' in (
        same-some s.kind t.kind (sym first.kind
            ∙ ap (λ name. position (bytes_eq name) names) (sym text) ∙ second.kind),
        (position-Some (bytes_eq (type_in (row_at rows j))) names t.kind [] second.kind).0,
      )

  -- no two rows rank one candidate in one type
  pub one-candidate : ((kind : ℕ) → kind < length names → (x : ℕ)
      → copies x (map (λ s. s.candidate) (in_type kind (standings names numbers rows))) ≤ 1)
      → HasNoRepeat (map candidate_group rows) (length rows)
  one-candidate once i j below lt same =
      let s = standing-at i (omega arith) in
      let t = standing-at j lt in
      let group = sym (group-at candidate_group i (omega arith)) ∙ same
      ∙ group-at candidate_group j lt in
      let both = and_parts _ _ (same_candidate-group (row_at rows j) (row_at rows i) (fields j lt)
      (fields i (omega arith)) group) in
      let number = equal (candidate_in (row_at rows j)) (candidate_in (row_at rows i)) both.0 in
      let kind = same-kind i j s.0 t.0 s.1 t.1 both.1 in
      let first = Comes-from names numbers (row_at rows i) s.0 s.1 in
      let second = Comes-from names numbers (row_at rows j) t.0 t.1 in
      let index : s.0.candidate ≡ t.0.candidate = same-some s.0.candidate t.0.candidate
      (sym first.candidate ∙ ap (λ n. position (nat_eq n) numbers) (sym number)
      ∙ second.candidate) in
      let two =
      twice names numbers (λ s. s.candidate) t.0.candidate t.0.kind rows i j s.0 t.0 below lt
      s.1 t.1 kind.0 refl index refl in
      let one = once t.0.kind kind.1 t.0.candidate in
      absurd (omega arith)

  -- and none give one rank in one type
  pub one-rank : ((kind : ℕ) → kind < length names → (x : ℕ)
      → copies x (map (λ s. s.rank) (in_type kind (standings names numbers rows))) ≤ 1)
      → HasNoRepeat (map rank_group rows) (length rows)
  one-rank once i j below lt same =
      let s = standing-at i (omega arith) in
      let t = standing-at j lt in
      let group = sym (group-at rank_group i (omega arith)) ∙ same ∙ group-at rank_group j lt in
      let both = and_parts _ _ (same_rank-group (row_at rows j) (row_at rows i) (fields j lt)
      (fields i (omega arith)) group) in
      let given = equal (rank_in (row_at rows j)) (rank_in (row_at rows i)) both.0 in
      let kind = same-kind i j s.0 t.0 s.1 t.1 both.1 in
      let first = Comes-from names numbers (row_at rows i) s.0 s.1 in
      let second = Comes-from names numbers (row_at rows j) t.0 t.1 in
      let rank : s.0.rank ≡ t.0.rank = first.rank ∙ sym given ∙ sym second.rank in
      let two = twice names numbers (λ s. s.rank) t.0.rank t.0.kind rows i j s.0 t.0 below lt
      s.1 t.1 kind.0 refl rank refl in
      let one = once t.0.kind kind.1 t.0.rank in
      absurd (omega arith)
