-- A name behind others is added to their first appearances exactly where it is not among them; the
-- places of the names there stay.
use Rattle.std.proofs.Common.{◌≡◌, ℕ, ◌<◌, ◌≤◌, Bool, true, false, not, List, [], ◌∷◌, ◌++◌, filter, length, length-append, refl, sym, ap, ◌∙◌, arith}
use Rattle.std.specs.List.{list_any, position_or_len}
use Rattle.std.specs.Str.{bytes_eq}
use Rattle.std.proofs.lemmas.Cmp.{nat_list_eq_equiv}
use Rattle.std.proofs.lemmas.List.{append-nil}
use Rattle.std.proofs.lemmas.List.Elements.{filter-append}
use Rattle.std.proofs.lemmas.Bool.{false≢true}
use Rattle.std.proofs.lemmas.Bool.Decides.{nat_tests}
use Rattle.std.proofs.lemmas.List.Folds.{list_any-append, position_or_len_push}
use Rattle.std.proofs.lemmas.Map.Views.{any-filter_same}
use Rattle.indexmap.specs.IndexSet.{insert_key}
use Rattle.programme_table.specs.Rows.{first_appearances}

-- the names other than one
abbrev others : List ℕ → List (List ℕ) → List (List ℕ)
others name names = filter (λ other. not (bytes_eq name other)) names

-- a name that is not the one is found among the others where it was found
any-others : (name found : List ℕ) (names : List (List ℕ)) → bytes_eq found name ≡ false
    → list_any (bytes_eq found) (others name names) ≡ list_any (bytes_eq found) names
any-others name found names apart =
    any-filter_same (bytes_eq found) (λ other. not (bytes_eq name other)) true
    (λ other same. ap not
    (nat_list_eq_equiv.symm name other ∙ sym (nat_list_eq_equiv.congr found other name same)
    ∙ apart)) names

-- a name found among later first appearances is found among all
pub any-first : (name found : List ℕ) (names : List (List ℕ))
    → list_any (bytes_eq found) names ≡ true
    → list_any (bytes_eq found) (name ∷ others name names) ≡ true
any-first name found names there = by (bytes_eq found name) refl
  where
    by : (same : Bool) → bytes_eq found name ≡ same
        → list_any (bytes_eq found) (name ∷ others name names) ≡ true
    by true same = rw same refl
    by false same = rw same (any-others name found names same ∙ there)

-- adding a name behind the others of one
others-insert_key : (name added : List ℕ) (names : List (List ℕ))
    → name ∷ others name (insert_key bytes_eq names added)
    ≡ insert_key bytes_eq (name ∷ others name names) added
others-insert_key name added names =
    by (bytes_eq added name) refl (list_any (bytes_eq added) names) refl
  where
    by : (same : Bool) → bytes_eq added name ≡ same → (there : Bool)
        → list_any (bytes_eq added) names ≡ there
        → name ∷ others name (insert_key bytes_eq names added)
        ≡ insert_key bytes_eq (name ∷ others name names) added
    by true same true there = rw (same, there) refl
    by true same false there =
        let gone : not (bytes_eq name added) ≡ false =
        ap not (nat_list_eq_equiv.symm name added ∙ same) in
        rw (same, there) (rw (filter-append (λ other. not (bytes_eq name other)) names (added ∷ []))
        (rw gone (ap (λ left. name ∷ left) (append-nil (others name names)))))
    by false same true there = rw (any-others name added names same, same, there) refl
    by false same false there =
        let kept : not (bytes_eq name added) ≡ true =
        ap not (nat_list_eq_equiv.symm name added ∙ same) in
        rw (any-others name added names same, same, there)
        (rw (filter-append (λ other. not (bytes_eq name other)) names (added ∷ [])) (rw kept refl))

-- a name behind others
pub first_appearances-snoc : (names : List (List ℕ)) (name : List ℕ)
    → first_appearances (names ++ name ∷ []) ≡ insert_key bytes_eq (first_appearances names) name
first_appearances-snoc [] name = refl
first_appearances-snoc (first ∷ names) name =
    ap (λ later. first ∷ others first later) (first_appearances-snoc names name)
    ∙ others-insert_key first name (first_appearances names)

-- a test that some element passes has its first place within the list
pub place-within : {X : Type 0} (p : X → Bool) (xs : List X) → list_any p xs ≡ true
    → position_or_len p xs < length xs
place-within p [] there = absurd (false≢true there)
place-within p (x ∷ xs) there = by (p x) refl (place-within p xs)
  where
    by : (passes : Bool) → p x ≡ passes → (list_any p xs ≡ true → position_or_len p xs < length xs)
        → position_or_len p (x ∷ xs) < length (x ∷ xs)
    by true e later = rw e (omega arith)
    by false e later = let within : position_or_len p xs < length xs = later (rw e at there) in
        rw e (omega arith)

-- a place before the end stays where an element is added
pub place-push : {X : Type 0} (p : X → Bool) (xs : List X) (x : X) → list_any p xs ≡ true
    → position_or_len p (xs ++ x ∷ []) ≡ position_or_len p xs
place-push p xs x there =
    let within : position_or_len p xs < length xs = place-within p xs there in
    position_or_len_push p xs x ∙ grind (arith, nat_tests)

-- the place of a name that is added is where it was looked for
pub place-insert_key : (names : List (List ℕ)) (name : List ℕ)
    → position_or_len (bytes_eq name) (insert_key bytes_eq names name)
    ≡ position_or_len (bytes_eq name) names
place-insert_key names name = by (list_any (bytes_eq name) names) refl
  where
    by : (there : Bool) → list_any (bytes_eq name) names ≡ there
        → position_or_len (bytes_eq name) (insert_key bytes_eq names name)
        ≡ position_or_len (bytes_eq name) names
    by true e = rw e refl
    by false e = rw e (position_or_len_push (bytes_eq name) names name
        ∙ rw (nat_list_eq_equiv.refl name) (grind (arith, nat_tests)))

-- a name that is there keeps its place
pub place-insert_key_other : (names : List (List ℕ)) (name added : List ℕ)
    → list_any (bytes_eq name) names ≡ true
    → position_or_len (bytes_eq name) (insert_key bytes_eq names added)
    ≡ position_or_len (bytes_eq name) names
place-insert_key_other names name added there = by (list_any (bytes_eq added) names) refl
  where
    by : (known : Bool) → list_any (bytes_eq added) names ≡ known
        → position_or_len (bytes_eq name) (insert_key bytes_eq names added)
        ≡ position_or_len (bytes_eq name) names
    by true e = rw e refl
    by false e = rw e (place-push (bytes_eq name) names added there)

-- a name that is added is there
pub any-insert_key_added : (names : List (List ℕ)) (name : List ℕ)
    → list_any (bytes_eq name) (insert_key bytes_eq names name) ≡ true
any-insert_key_added names name = by (list_any (bytes_eq name) names) refl
  where
    by : (known : Bool) → list_any (bytes_eq name) names ≡ known
        → list_any (bytes_eq name) (insert_key bytes_eq names name) ≡ true
    by true e = rw e e
    by false e = rw e (list_any-append (bytes_eq name) names (name ∷ [])
        ∙ rw (e, nat_list_eq_equiv.refl name) refl)

-- names are not fewer after one is added
pub length-insert_key : (names : List (List ℕ)) (name : List ℕ)
    → length names ≤ length (insert_key bytes_eq names name)
length-insert_key names name = by (list_any (bytes_eq name) names) refl
  where
    by : (known : Bool) → list_any (bytes_eq name) names ≡ known
        → length names ≤ length (insert_key bytes_eq names name)
    by true e = rw e (omega arith)
    by false e = rw e (omega (arith, length-append names (name ∷ [])))
