-- Keys in order, as packed numbers in order, and what stands in a turn order.
use Rattle.std.proofs.Common.{◌≡◌, ℕ, suc, ◌+◌, ◌%◌, Bool, true, false, nat_le, if◌then◌else◌, List, [], ◌∷◌, length, map, refl, sym, ap, ◌∙◌, arith}
use Rattle.std.proofs.lemmas.List.{length-map}
use Rattle.std.specs.Prelude.{IsPermutation}
use Rattle.std.proofs.lemmas.Bool.{cond_both}
use Rattle.std.proofs.lemmas.Bool.Decides.{nat_tests}
use Rattle.case_maker.specs.declared.keys.TheConstants.{INDEXES}
use Rattle.case_maker.specs.Draws.{Key}
use Rattle.case_maker.specs.Packed.{unpacked}
use Rattle.case_maker.specs.Turns.{is_before, put_in, in_order, turn_order}
use Rattle.market.proofs.Copies.{copies, one_if, Rises}
use Rattle.case_maker.proofs.Sorting.{place_in, sorted, sorted-unique}

-- keys come in the order of their packed numbers
before-le : (x y : ℕ) → is_before (unpacked x) (unpacked y) ≡ nat_le x y
before-le x y = grind (arith, nat_tests)

put_in-unpacked : (x : ℕ) (ys : List ℕ)
    → put_in (unpacked x) (map unpacked ys) ≡ map unpacked (place_in x ys)
put_in-unpacked x [] = refl
put_in-unpacked x (y ∷ ys) = rw (before-le x y) (by (nat_le x y) (put_in-unpacked x ys))
  where
    by : (b : Bool) → put_in (unpacked x) (map unpacked ys) ≡ map unpacked (place_in x ys)
        → (if b then unpacked x ∷ unpacked y ∷ map unpacked ys
        else unpacked y ∷ put_in (unpacked x) (map unpacked ys))
        ≡ map unpacked (if b then x ∷ y ∷ ys else y ∷ place_in x ys)
    by true e = refl
    by false e = ap (λ rest. unpacked y ∷ rest) e

in_order-unpacked : (xs : List ℕ) → in_order (map unpacked xs) ≡ map unpacked (sorted xs)
in_order-unpacked [] = refl
in_order-unpacked (x ∷ xs) = ap (put_in (unpacked x)) (in_order-unpacked xs)
    ∙ put_in-unpacked x (sorted xs)

candidates-unpacked : (xs : List ℕ)
    → map (λ a. a.1) (map unpacked xs) ≡ map (λ key. key % INDEXES) xs
candidates-unpacked [] = refl
candidates-unpacked (x ∷ xs) = ap (λ rest. x % INDEXES ∷ rest) (candidates-unpacked xs)

-- the candidates of sorted packed keys are the turn order
pub turn_order-sorted : (xs ys : List ℕ) → IsPermutation xs ys → Rises ys
    → map (λ key. key % INDEXES) ys ≡ turn_order (map unpacked xs)
turn_order-sorted xs ys p up =
    ap (map (λ key. key % INDEXES)) (sorted-unique xs ys p up)
    ∙ sym (candidates-unpacked (sorted xs))
    ∙ ap (map (λ a. a.1)) (sym (in_order-unpacked xs))

length-put_in : (a : Key) (rest : List Key) → length (put_in a rest) ≡ suc (length rest)
length-put_in a [] = refl
length-put_in a (b ∷ rest) = cond_both (is_before a b) (a ∷ b ∷ rest) (b ∷ put_in a rest)
    (λ all. length all ≡ suc (suc (length rest))) (λ yes. refl)
    (λ no. ap (λ n. suc n) (length-put_in a rest))

length-in_order : (keys : List Key) → length (in_order keys) ≡ length keys
length-in_order [] = refl
length-in_order (a ∷ keys) = length-put_in a (in_order keys)
    ∙ ap (λ n. suc n) (length-in_order keys)

-- each key has a turn
pub length-turn_order : (keys : List Key) → length (turn_order keys) ≡ length keys
length-turn_order keys = length-map (in_order keys) (λ a. a.1) ∙ length-in_order keys

copies-put_in : (x : ℕ) (a : Key) (rest : List Key)
    → copies x (map (λ k. k.1) (put_in a rest)) ≡ one_if x a.1 + copies x (map (λ k. k.1) rest)
copies-put_in x a [] = refl
copies-put_in x a (b ∷ rest) = cond_both (is_before a b) (a ∷ b ∷ rest) (b ∷ put_in a rest)
    (λ all. copies x (map (λ k. k.1) all)
    ≡ one_if x a.1 + (one_if x b.1 + copies x (map (λ k. k.1) rest)))
    (λ yes. refl)
    (λ no. let later : copies x (map (λ k. k.1) (put_in a rest))
    ≡ one_if x a.1 + copies x (map (λ k. k.1) rest) = copies-put_in x a rest in omega arith)

-- a candidate stands in the turn order as often as among the keys
pub copies-turn_order : (x : ℕ) (keys : List Key)
    → copies x (turn_order keys) ≡ copies x (map (λ k. k.1) keys)
copies-turn_order x [] = refl
copies-turn_order x (a ∷ keys) = copies-put_in x a (in_order keys)
    ∙ ap (λ n. one_if x a.1 + n) (copies-turn_order x keys)
