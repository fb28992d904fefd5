-- A table of turns, filled turn by turn.
use Rattle.std.proofs.Common.{◌≡◌, ◌≢◌, ℕ, ◌+◌, ◌<◌, ◌≤◌, not, List, length, refl, sym, ap, ◌∙◌, arith, set, replicate, ⊎_elim, [], ◌∷◌, ◌++◌, subst, get_or}
use Rattle.std.specs.Prelude.{slice_index, ◌==◌}
use Rattle.std.proofs.lemmas.Bool.{cases_lt, cases_eq, ne_eqb, eq-eqb}
use Rattle.std.proofs.lemmas.List.{get_or_append_left, get_or_push, get_or-set_same, get_or-set_other, length-set, length-replicate, get_or-replicate}
use Rattle.std.proofs.lemmas.List.Sums.{position_or_len_is, prefix_len-le-length}
use Rattle.market.specs.Problems.{HasNoRepeats, place_of}
use Rattle.market.specs.Tables.{IsTurnTable}
use Rattle.market.proofs.Firsts.{place_get}

-- the first k turns are written
pub record IsFilled (count : ℕ) (order table : List ℕ) (k : ℕ) : Type 0 where
  pub candidates : length table ≡ count
  pub written : (i : ℕ) → i < count → place_of i order < k → slice_index table i ≡ place_of i order
  pub unwritten : (i : ℕ) → i < count → k ≤ place_of i order → slice_index table i ≡ length order

-- before the first turn nobody has one
pub IsFilled-none : (count n : ℕ) (order table : List ℕ) → n ≡ length order
    → table ≡ replicate count n → IsFilled count order table 0
IsFilled-none count n order table h e = record {
  candidates = ap (λ (xs : List ℕ). length xs) e ∙ length-replicate count n;
  written = λ i l p. absurd (omega arith);
  unwritten = λ i l p. ap (λ (xs : List ℕ). slice_index xs i) e ∙ get_or-replicate count i n 0 l
      ∙ h;
}

-- in a list without two equal entries an entry stands at its place
pub place_at : (xs : List ℕ) (k : ℕ) → HasNoRepeats xs → k < length xs
    → place_of (slice_index xs k) xs ≡ k
place_at xs k d l =
    position_or_len_is (λ y. y == slice_index xs k) xs k 0 (omega arith)
    (λ j lj. ne_eqb (slice_index xs j) (slice_index xs k) (d j k lj l))
    (λ lk. eq-eqb (slice_index xs k) (slice_index xs k) refl)

-- one turn more is written for its candidate
pub IsFilled-more : (count : ℕ) (order table : List ℕ) (k : ℕ) → HasNoRepeats order
    → k < length order
    → slice_index order k < count → IsFilled count order table k
    → IsFilled count order (set table (slice_index order k) k) (k + 1)
IsFilled-more count order table k d l b f =
    let c = slice_index order k in
    let at = place_at order k d l in
    let n = f.candidates in
    record {
      candidates = length-set table c k ∙ f.candidates;
      written = λ i li p.
          ⊎_elim
          (λ same.
          ap (slice_index (set table c k)) same
          ∙ get_or-set_same table c k 0 (omega arith)
          ∙ sym (ap (λ (x : ℕ). place_of x order) same ∙ at))
          (λ ne.
          let other : place_of i order ≢ k =
          λ e. ne (sym (place_get i order 0 (omega arith)) ∙ ap (slice_index order) e) in
          get_or-set_other table c i k 0 ne ∙ f.written i li (omega arith))
          (cases_eq i c);
      unwritten = λ i li p.
          ⊎_elim
          (λ same. let e = ap (λ (x : ℕ). place_of x order) same in absurd (omega arith))
          (λ ne. get_or-set_other table c i k 0 ne ∙ f.unwritten i li (omega arith))
          (cases_eq i c);
    }

-- a place is at most the list's length
pub place-le : (i : ℕ) (order : List ℕ) → place_of i order ≤ length order
place-le i order = prefix_len-le-length (λ y. not (y == i)) order

-- after all turns this is the table
pub IsTurnTable-all : (count : ℕ) (order table : List ℕ) (k : ℕ) → k ≡ length order
    → IsFilled count order table k → IsTurnTable count order table
IsTurnTable-all count order table k e f = record {
  candidates = f.candidates;
  each = λ i li.
      ⊎_elim
      (λ below. f.written i li below)
      (λ above. let le = place-le i order in f.unwritten i li above ∙ omega arith)
      (cases_lt (place_of i order) k);
}

-- what holds of each, with one more
pub each_more : {X : Type 0} (d : X) (P : ℕ → X → Type 0) (found more : List X) (x : X) (k : ℕ)
    → length found ≡ k → more ≡ found ++ x ∷ []
    → ((t : ℕ) → t < k → P t (get_or found t d)) → P k x
    → (t : ℕ) → t < k + 1 → P t (get_or more t d)
each_more {X} d P found more x k n e each here t l =
    let read = ap (λ (xs : List X). get_or xs t d) e in
    ⊎_elim
    (λ same.
    let at = read ∙ get_or_push found x d t (n ∙ sym same) in
    subst (λ (u : ℕ). P u (get_or more t d)) (sym same) (subst (P k) (sym at) here))
    (λ ne. subst (P t) (sym (read ∙ get_or_append_left found (x ∷ []) d t (omega arith)))
    (each t (omega arith)))
    (cases_eq t k)
