-- A list of which each entry is kept where it stands first.
use Rattle.std.proofs.Common.{◌≡◌, ◌≢◌, ℕ, ◌+◌, ◌≤◌, ◌==◌, ◌||◌, Bool, true, false, not, cond, append-nil, List, [], ◌∷◌, ◌++◌, filter, length, refl, sym, ap, ◌∙◌, arith, ⊎_elim}
use Rattle.std.specs.Prelude.{All}
use Rattle.std.specs.List.{list_any}
use Rattle.std.proofs.lemmas.Bool.{cases_eq, cond_both, eq-eqb, ne_eqb}
use Rattle.std.proofs.lemmas.List.Elements.{All-cons, All-filter, All-head, All-nil, All-tail, filter-append}
use Rattle.market.specs.Problems.{HasNoRepeats}
use Rattle.case_maker.specs.Draws.{without_repeats}
use Rattle.market.proofs.Copies.{copies, one_if, one_if-cases, one_if-other, one_if-same, no_repeats}

-- the numbers but one
abbrev others : ℕ → List ℕ → List ℕ
others x ys = filter (λ y. not (y == x)) ys

length-others : (x : ℕ) (ys : List ℕ) → length (others x ys) ≤ length ys
length-others x [] = omega arith
length-others x (y ∷ ys) =
    let rest : length (others x ys) ≤ length ys = length-others x ys in
    cond_both (not (y == x)) (y ∷ others x ys) (others x ys) (λ zs. length zs ≤ length (y ∷ ys))
    (λ yes. omega arith)
    (λ no. omega arith)

-- it is no longer
pub length-without_repeats : (xs : List ℕ) → length (without_repeats xs) ≤ length xs
length-without_repeats [] = omega arith
length-without_repeats (x ∷ xs) =
    let rest : length (without_repeats xs) ≤ length xs = length-without_repeats xs in
    let fewer : length (others x (without_repeats xs)) ≤ length (without_repeats xs) =
    length-others x (without_repeats xs) in
    omega arith

-- what holds of each entry still does
pub All-without_repeats : (P : ℕ → Type 0) (xs : List ℕ) → All P xs → All P (without_repeats xs)
All-without_repeats P [] h = All-nil P
All-without_repeats P (x ∷ xs) h =
    All-cons P x (others x (without_repeats xs)) (All-head P x xs h)
    (All-filter (λ y. not (y == x)) P (without_repeats xs)
    (All-without_repeats P xs (All-tail P x xs h)))

copies-others : (z x : ℕ) (ys : List ℕ) → copies z (others x ys) ≤ copies z ys
copies-others z x [] = omega arith
copies-others z x (y ∷ ys) =
    let rest : copies z (others x ys) ≤ copies z ys = copies-others z x ys in
    cond_both (not (y == x)) (y ∷ others x ys) (others x ys)
    (λ zs. copies z zs ≤ one_if z y + copies z ys)
    (λ yes. omega arith)
    (λ no. omega arith)

copies-itself : (x : ℕ) (ys : List ℕ) → copies x (others x ys) ≡ 0
copies-itself x [] = refl
copies-itself x (y ∷ ys) = ⊎_elim
    (λ (same : y ≡ x). rw (eq-eqb y x same) (copies-itself x ys))
    (λ (other : y ≢ x). rw (ne_eqb y x other)
    (let rest : copies x (others x ys) ≡ 0 = copies-itself x ys in
    let here : one_if x y ≡ 0 = one_if-other x y (λ e. other (sym e)) in
    omega arith))
    (cases_eq y x)

once : (xs : List ℕ) (z : ℕ) → copies z (without_repeats xs) ≤ 1
once [] z = omega arith
once (x ∷ xs) z =
    let rest : copies z (without_repeats xs) ≤ 1 = once xs z in
    let fewer : copies z (others x (without_repeats xs)) ≤ copies z (without_repeats xs) =
    copies-others z x (without_repeats xs) in
    ⊎_elim
    (λ (other : one_if z x ≡ 0). omega arith)
    (λ (same : z ≡ x).
    let none : copies z (others x (without_repeats xs)) ≡ 0 =
    rw same (copies-itself x (without_repeats xs)) in
    let one : one_if z x ≡ 1 = one_if-same z x same in
    omega arith)
    (one_if-cases z x)

-- it repeats no entry
pub HasNoRepeats-without_repeats : (xs : List ℕ) → HasNoRepeats (without_repeats xs)
HasNoRepeats-without_repeats xs = no_repeats (without_repeats xs) (once xs)

-- whether an entry stands in a list
abbrev pub stands : ℕ → List ℕ → Bool
stands x ys = list_any (λ y. y == x) ys

-- a list with one entry more, unless it stands in it
abbrev pub with_entry : ℕ → List ℕ → List ℕ
with_entry x ys = cond (stands x ys) ys (ys ++ x ∷ [])

stands-others : (x y : ℕ) (zs : List ℕ) → x ≢ y → stands x (others y zs) ≡ stands x zs
stands-others x y [] differ = refl
stands-others x y (z ∷ zs) differ = ⊎_elim
    (λ (same : z ≡ y). rw (eq-eqb z y same, ne_eqb z x (λ e. differ (sym e ∙ same)))
    (stands-others x y zs differ))
    (λ (other : z ≢ y). rw (ne_eqb z y other)
    (ap (λ b. (z == x) || b) (stands-others x y zs differ)))
    (cases_eq z y)

others-itself : (x : ℕ) (zs : List ℕ) → others x (zs ++ x ∷ []) ≡ others x zs
others-itself x zs =
    let none : others x (x ∷ []) ≡ [] = rw (eq-eqb x x refl) refl in
    filter-append (λ y. not (y == x)) zs (x ∷ []) ∙ ap (λ ws. others x zs ++ ws) none
    ∙ append-nil (others x zs)

others-push : (x y : ℕ) (zs : List ℕ) → x ≢ y
    → others y (zs ++ x ∷ []) ≡ others y zs ++ x ∷ []
others-push x y zs differ =
    let one : others y (x ∷ []) ≡ x ∷ [] = rw (ne_eqb x y differ) refl in
    filter-append (λ z. not (z == y)) zs (x ∷ []) ∙ ap (λ ws. others y zs ++ ws) one

-- an entry more beside an entry that stands in front
step : (x y : ℕ) (zs : List ℕ) → y ∷ others y (with_entry x zs) ≡ with_entry x (y ∷ others y zs)
step x y zs = ⊎_elim
    (λ (same : x ≡ y). rw (eq-eqb y x (sym same)) (here same (stands x zs)))
    (λ (differ : x ≢ y). rw (ne_eqb y x (λ e. differ (sym e)), stands-others x y zs differ)
    (apart differ (stands x zs)))
    (cases_eq x y)
  where
    here : x ≡ y → (b : Bool) → y ∷ others y (cond b zs (zs ++ x ∷ [])) ≡ y ∷ others y zs
    here same true = refl
    here same false = rw same (ap (λ ws. y ∷ ws) (others-itself y zs))

    apart : x ≢ y → (b : Bool) → y ∷ others y (cond b zs (zs ++ x ∷ []))
        ≡ cond b (y ∷ others y zs) ((y ∷ others y zs) ++ x ∷ [])
    apart differ true = refl
    apart differ false = ap (λ ws. y ∷ ws) (others-push x y zs differ)

-- one entry more
pub without_repeats-more : (xs : List ℕ) (x : ℕ)
    → without_repeats (xs ++ x ∷ []) ≡ with_entry x (without_repeats xs)
without_repeats-more [] x = refl
without_repeats-more (y ∷ ys) x =
    ap (λ zs. y ∷ others y zs) (without_repeats-more ys x) ∙ step x y (without_repeats ys)
