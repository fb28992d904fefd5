-- Lists over offers: how long they are, what stands in them, and that nothing stands in them twice.
use Rattle.std.proofs.Common.{◌≡◌, ℕ, suc, ◌+◌, ◌-◌, ◌*◌, ◌<◌, ◌≤◌, Bool, true, false, List, [], ◌∷◌, ◌++◌, append-nil, length, map, refl, sym, ap, ◌∙◌, arith, ⊎_elim}
use Rattle.std.specs.Prelude.{All}
use Rattle.std.specs.List.{flat_map}
use Rattle.std.proofs.lemmas.Bool.{cases_lt}
use Rattle.std.proofs.lemmas.List.{map-append}
use Rattle.std.proofs.lemmas.List.Concat.{flat_map-append}
use Rattle.std.proofs.lemmas.List.Elements.{All-cons, All-head, All-nil, All-tail}
use Rattle.market.specs.Problems.{HasNoRepeats}
use Rattle.market.proofs.Copies.{copies, copies-none, one_if, one_if-cases, one_if-other, one_if-same, no_repeats}
use Rattle.reserved_seats.specs.Offers.{index_of, offers_of}
use Rattle.reserved_seats.specs.Expansion.{offered_list}

-- the list of a candidate who is not marked stays
pub offered-unmarked : (rows : ℕ) (list : List ℕ) → offered_list rows false list ≡ list
offered-unmarked rows [] = refl
offered-unmarked rows (p ∷ ps) = ap (λ qs. p ∷ qs) (offered-unmarked rows ps)

-- one row more
pub offered-more : (rows : ℕ) (marked : Bool) (list : List ℕ) (p : ℕ)
    → offered_list rows marked (list ++ p ∷ [])
    ≡ offered_list rows marked list ++ map (index_of rows) (offers_of marked p)
offered-more rows marked list p =
    ap (map (index_of rows)) (flat_map-append (offers_of marked) list (p ∷ [])
    ∙ ap (λ offers. flat_map (offers_of marked) list ++ offers) (append-nil (offers_of marked p)))
    ∙ map-append (index_of rows) (flat_map (offers_of marked) list) (offers_of marked p)

-- it has at most two entries a row
pub length-offered : (rows : ℕ) (marked : Bool) (list : List ℕ)
    → length (offered_list rows marked list) ≤ 2 * length list
length-offered rows marked [] = omega arith
length-offered rows true (p ∷ ps) =
    let rest : length (offered_list rows true ps) ≤ 2 * length ps = length-offered rows true ps in
    omega arith
length-offered rows false (p ∷ ps) =
    let rest : length (offered_list rows false ps) ≤ 2 * length ps = length-offered rows false ps in
    omega arith

-- its entries are indexes of offers
pub offered-within : (rows : ℕ) (marked : Bool) (list : List ℕ) → All (λ p. p < rows) list
    → All (λ q. q < rows + rows) (offered_list rows marked list)
offered-within rows marked [] h = All-nil (λ q. q < rows + rows)
offered-within rows true (p ∷ ps) h =
    let here : p < rows = All-head (λ p. p < rows) p ps h in
    All-cons (λ q. q < rows + rows) p ((rows + p) ∷ offered_list rows true ps) (omega arith)
    (All-cons (λ q. q < rows + rows) (rows + p) (offered_list rows true ps) (omega arith)
    (offered-within rows true ps (All-tail (λ p. p < rows) p ps h)))
offered-within rows false (p ∷ ps) h =
    let here : p < rows = All-head (λ p. p < rows) p ps h in
    All-cons (λ q. q < rows + rows) p (offered_list rows false ps) (omega arith)
    (offered-within rows false ps (All-tail (λ p. p < rows) p ps h))

-- ---- no offer stands in it twice

-- a list that repeats nothing has each number at most once
copies-once : (x : ℕ) (xs : List ℕ) → HasNoRepeats xs → copies x xs ≤ 1
copies-once x [] distinct = omega arith
copies-once x (y ∷ ys) distinct =
    let rest : copies x ys ≤ 1 = copies-once x ys (λ i j below lt. distinct (suc i) (suc j)
    (omega arith) (omega arith)) in
    ⊎_elim
    (λ (other : one_if x y ≡ 0). omega arith)
    (λ (same : x ≡ y).
    let none : copies x ys ≡ 0 = copies-none x ys (λ k lt e.
    distinct 0 (suc k) (omega arith) (omega arith) (sym same ∙ sym e)) in
    let one : one_if x y ≡ 1 = one_if-same x y same in
    omega arith)
    (one_if-cases x y)

-- a row's general seats stand there as often as the row does in the list of rows
pub copies-general : (rows x : ℕ) (list : List ℕ) → x < rows
    → copies x (offered_list rows true list) ≡ copies x list
copies-general rows x [] below = refl
copies-general rows x (p ∷ ps) below =
    let rest : copies x (offered_list rows true ps) ≡ copies x ps = copies-general rows x ps below
    in
    let none : one_if x (rows + p) ≡ 0 = one_if-other x (rows + p) (λ e. omega arith) in
    omega arith

-- one row beside another, and the reserved seats of both
one_if-shifted : (rows y p : ℕ) → one_if (rows + y) (rows + p) ≡ one_if y p
one_if-shifted rows y p =
    ⊎_elim
    (λ (other : one_if (rows + y) (rows + p) ≡ 0). ⊎_elim
    (λ (apart : one_if y p ≡ 0). omega arith)
    (λ (same : y ≡ p).
    let one : one_if (rows + y) (rows + p) ≡ 1 = one_if-same (rows + y) (rows + p) (omega arith) in
    absurd (omega arith))
    (one_if-cases y p))
    (λ (same : rows + y ≡ rows + p).
    let one : one_if (rows + y) (rows + p) ≡ 1 = one_if-same (rows + y) (rows + p) same in
    let both : one_if y p ≡ 1 = one_if-same y p (omega arith) in
    omega arith)
    (one_if-cases (rows + y) (rows + p))

-- so do its reserved seats
pub copies-reserved : (rows y : ℕ) (list : List ℕ) → All (λ p. p < rows) list
    → copies (rows + y) (offered_list rows true list) ≡ copies y list
copies-reserved rows y [] h = refl
copies-reserved rows y (p ∷ ps) h =
    let here : p < rows = All-head (λ p. p < rows) p ps h in
    let rest : copies (rows + y) (offered_list rows true ps) ≡ copies y ps =
    copies-reserved rows y ps (All-tail (λ p. p < rows) p ps h) in
    let none : one_if (rows + y) p ≡ 0 = one_if-other (rows + y) p (λ e. omega arith) in
    let same : one_if (rows + y) (rows + p) ≡ one_if y p = one_if-shifted rows y p in
    omega arith

once : (rows : ℕ) (list : List ℕ) → All (λ p. p < rows) list → HasNoRepeats list → (x : ℕ)
    → copies x (offered_list rows true list) ≤ 1
once rows list within distinct x =
    ⊎_elim
    (λ (below : x < rows).
    let same : copies x (offered_list rows true list) ≡ copies x list =
    copies-general rows x list below in
    let one : copies x list ≤ 1 = copies-once x list distinct in
    omega arith)
    (λ (above : rows ≤ x).
    let y = x - rows in
    let at : rows + y ≡ x = omega arith in
    let same : copies x (offered_list rows true list) ≡ copies y list =
    ap (λ z. copies z (offered_list rows true list)) (sym at)
    ∙ copies-reserved rows y list within in
    let one : copies y list ≤ 1 = copies-once y list distinct in
    omega arith)
    (cases_lt x rows)

-- a list over offers repeats none where that of rows repeats none
pub offered-distinct : (rows : ℕ) (marked : Bool) (list : List ℕ) → All (λ p. p < rows) list
    → HasNoRepeats list → HasNoRepeats (offered_list rows marked list)
offered-distinct rows true list within distinct =
    no_repeats (offered_list rows true list) (once rows list within distinct)
offered-distinct rows false list within distinct =
    no_repeats (offered_list rows false list) (λ x.
    let same : copies x (offered_list rows false list) ≡ copies x list =
    ap (copies x) (offered-unmarked rows list) in
    let one : copies x list ≤ 1 = copies-once x list distinct in
    omega arith)
