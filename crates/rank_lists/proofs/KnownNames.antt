-- A type is found by the number of its name, which no other name has.
use Rattle.std.proofs.Common.{◌≡◌, ◌≢◌, ℕ, ◌<◌, All, IsTrue, List, [], None, Some, bytes_eq, false, get_or, length, map, position, true, ap, refl, sym, ◌∙◌, arith, ⊎_elim}
use Rattle.std.specs.Prelude.{slice_index}
use Rattle.std.proofs.lemmas.Bool.{cases_Bool, lt-ltb}
use Rattle.std.proofs.lemmas.Bool.Decides.{nat_tests}
use Rattle.std.proofs.lemmas.List.{get_or-map}
use Rattle.std.proofs.lemmas.List.Sums.{position_or_len_is}
use Rattle.std.proofs.lemmas.Slice.Eq.{bytes_eq-Decides}
use Rattle.place_base.specs.TypeName.{is_type_name}
use Rattle.rank_lists.specs.Groups.{name_number}
use Rattle.rank_lists.proofs.Names.{IsName-from, IsName-same}

-- names of different numbers differ
other-name : (a b : List ℕ) → name_number b ≢ name_number a → bytes_eq a b ≡ false
other-name a b other = ⊎_elim
    (λ (yes : bytes_eq a b ≡ true).
    absurd (other (ap name_number (sym ((bytes_eq-Decides a b).0 yes)))))
    (λ (no : bytes_eq a b ≡ false). no)
    (cases_Bool (bytes_eq a b))

-- names of one number are equal
same-name : (a b : List ℕ) → IsTrue (is_type_name a) → IsTrue (is_type_name b)
    → name_number b ≡ name_number a → bytes_eq a b ≡ true
same-name a b g h e =
    (bytes_eq-Decides a b).1 (IsName-same a b (IsName-from a g) (IsName-from b h) (sym e))

module _ (names : List (List ℕ)) (name : List ℕ)
    (are : All (λ name. IsTrue (is_type_name name)) names) (is : IsTrue (is_type_name name)) where
  number-at : (k : ℕ) → k < length names
      → slice_index (map name_number names) k ≡ name_number (get_or names k [])
  number-at k lt = get_or-map name_number names k [] 0 lt

  -- the place of a name that stands first there
  pub name-found : (i : ℕ) → i < length names
      → ((k : ℕ) → k < i → slice_index (map name_number names) k ≢ name_number name)
      → slice_index (map name_number names) i ≡ name_number name
      → position (bytes_eq name) names ≡ Some i
  name-found i inside before here =
      rw (position_or_len_is (bytes_eq name) names i [] (omega arith)
      (λ k below. other-name name (get_or names k []) (λ e. before k below
      (number-at k (omega arith) ∙ e)))
      (λ _. same-name name (get_or names i []) is (are i [] inside)
      (sym (number-at i inside) ∙ here)))
      (rw (lt-ltb i (length names) inside) refl)

  -- a name that stands nowhere
  pub name-nowhere : ((k : ℕ) → k < length names
      → slice_index (map name_number names) k ≢ name_number name)
      → position (bytes_eq name) names ≡ None
  name-nowhere before =
      rw (position_or_len_is (bytes_eq name) names (length names) [] (omega arith)
      (λ k below. other-name name (get_or names k []) (λ e. before k below (number-at k below ∙ e)))
      (λ past. absurd (omega arith))) (grind (arith, nat_tests))
