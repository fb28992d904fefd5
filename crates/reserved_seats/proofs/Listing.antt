-- Which offers stand in a list over offers, and in which order.
use Rattle.std.proofs.Common.{◌≡◌, ◌≢◌, ℕ, ◌+◌, ◌<◌, ◌≤◌, Bool, true, false, List, [], ◌∷◌, length, refl, sym, ap, ◌∙◌, subst, arith, ⊎_elim}
use Rattle.std.specs.Prelude.{All, slice_index}
use Rattle.std.proofs.lemmas.Bool.{cases_eq}
use Rattle.std.proofs.lemmas.List.Elements.{All-get_or, All-head, All-tail}
use Rattle.market.specs.Problems.{place_of}
use Rattle.market.proofs.Copies.{copies, copies-at, copies-none, one_if, one_if-cases}
use Rattle.market.proofs.Firsts.{place-here, place-next, place-cons-le, place_get}
use Rattle.reserved_seats.specs.Expansion.{offered_list}
use Rattle.reserved_seats.proofs.OfferedLists.{copies-general, copies-reserved, offered-unmarked}

-- a number stands in the list
abbrev pub IsListed : ℕ → List ℕ → Type 0
IsListed x xs = place_of x xs < length xs

-- then there is a copy of it
copies-listed : (x : ℕ) (xs : List ℕ) → IsListed x xs → 1 ≤ copies x xs
copies-listed x xs listed =
    subst (λ y. 1 ≤ copies y xs) (place_get x xs 0 listed) (copies-at xs (place_of x xs) listed)

-- and the other way round
listed-copies : (x : ℕ) (xs : List ℕ) → 1 ≤ copies x xs → IsListed x xs
listed-copies x [] one = absurd (omega arith)
listed-copies x (y ∷ ys) one =
    ⊎_elim
    (λ (other : one_if x y ≡ 0).
    let rest : place_of x ys < length ys = listed-copies x ys (omega arith) in
    let most = place-cons-le y x ys in
    omega arith)
    (λ (same : x ≡ y).
    let here : place_of x (y ∷ ys) ≡ 0 =
    ap (λ z. place_of x (z ∷ ys)) (sym same) ∙ place-here x ys in
    omega arith)
    (one_if-cases x y)

-- lists with as many copies of two numbers have both or neither
listed-as : (x y : ℕ) (xs ys : List ℕ) → copies x xs ≡ copies y ys → IsListed x xs → IsListed y ys
listed-as x y xs ys same listed =
    listed-copies y ys (subst (λ n. 1 ≤ n) same (copies-listed x xs listed))

-- ---- general seats

copies-of-general : (rows : ℕ) (marked : Bool) (p : ℕ) (list : List ℕ) → p < rows
    → copies p (offered_list rows marked list) ≡ copies p list
copies-of-general rows true p list lt = copies-general rows p list lt
copies-of-general rows false p list lt = ap (copies p) (offered-unmarked rows list)

-- the general seats of a listed row are offered
pub general-offered : (rows : ℕ) (marked : Bool) (p : ℕ) (list : List ℕ) → p < rows
    → IsListed p list → IsListed p (offered_list rows marked list)
general-offered rows marked p list lt =
    listed-as p p list (offered_list rows marked list)
    (sym (copies-of-general rows marked p list lt))

-- and of no other row
pub general-listed : (rows : ℕ) (marked : Bool) (p : ℕ) (list : List ℕ) → p < rows
    → IsListed p (offered_list rows marked list) → IsListed p list
general-listed rows marked p list lt =
    listed-as p p (offered_list rows marked list) list (copies-of-general rows marked p list lt)

-- ---- reserved seats

-- those of a listed row are offered to a marked candidate
pub reserved-offered : (rows p : ℕ) (list : List ℕ) → All (λ q. q < rows) list → IsListed p list
    → IsListed (rows + p) (offered_list rows true list)
reserved-offered rows p list within =
    listed-as p (rows + p) list (offered_list rows true list)
    (sym (copies-reserved rows p list within))

-- and of no other row, and to nobody else
pub reserved-listed : (rows : ℕ) (marked : Bool) (p : ℕ) (list : List ℕ) → All (λ q. q < rows) list
    → IsListed (rows + p) (offered_list rows marked list) → (marked ≡ true) × IsListed p list
reserved-listed rows true p list within listed = (
  refl,
  listed-as (rows + p) p (offered_list rows true list) list
      (copies-reserved rows p list within) listed,
)
reserved-listed rows false p list within listed =
    let none : copies (rows + p) list ≡ 0 = copies-none (rows + p) list (λ k lt e.
    let below : slice_index list k < rows = All-get_or (λ q. q < rows) list k 0 lt within in
    omega arith) in
    let some : 1 ≤ copies (rows + p) (offered_list rows false list) =
    copies-listed (rows + p) (offered_list rows false list) listed in
    let same : copies (rows + p) (offered_list rows false list) ≡ copies (rows + p) list =
    ap (copies (rows + p)) (offered-unmarked rows list) in
    absurd (omega arith)

-- the general seats of a row stand before its reserved ones
pub general-before : (rows p : ℕ) (list : List ℕ) → p < rows → All (λ q. q < rows) list
    → IsListed (rows + p) (offered_list rows true list)
    → place_of p (offered_list rows true list) < place_of (rows + p) (offered_list rows true list)
general-before rows p [] lt within listed = absurd (omega arith)
general-before rows p (q ∷ qs) lt within listed =
    let list = offered_list rows true qs in
    let below : q < rows = All-head (λ x. x < rows) q qs within in
    let behind : place_of (rows + p) (q ∷ (rows + q) ∷ list)
    ≡ 1 + place_of (rows + p) ((rows + q) ∷ list) =
    place-next q (rows + p) ((rows + q) ∷ list) (λ e. omega arith) in
    ⊎_elim
    (λ (same : q ≡ p).
    let here : place_of p (q ∷ (rows + q) ∷ list) ≡ 0 =
    ap (λ x. place_of p (x ∷ (rows + q) ∷ list)) same ∙ place-here p ((rows + q) ∷ list) in
    omega arith)
    (λ (other : q ≢ p).
    let general : place_of p (q ∷ (rows + q) ∷ list) ≡ 1 + place_of p ((rows + q) ∷ list) =
    place-next q p ((rows + q) ∷ list) other in
    let general_on : place_of p ((rows + q) ∷ list) ≡ 1 + place_of p list =
    place-next (rows + q) p list (λ e. omega arith) in
    let behind_on : place_of (rows + p) ((rows + q) ∷ list) ≡ 1 + place_of (rows + p) list =
    place-next (rows + q) (rows + p) list (λ e. other (omega arith)) in
    let rest : place_of p list < place_of (rows + p) list =
    general-before rows p qs lt (All-tail (λ x. x < rows) q qs within) (omega arith) in
    omega arith)
    (cases_eq q p)
