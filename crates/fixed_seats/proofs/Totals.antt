-- The holders of all programmes, added up, are the candidates who hold one. Each candidate placed
-- is counted at one programme: by induction on the candidates.
use Rattle.std.proofs.Common.{◌≡◌, ℕ, zero, suc, ◌+◌, ◌<◌, ◌≤◌, Bool, true, false, cond, List, [], ◌∷◌, length, Option, Some, None, refl, sym, ◌∙◌, arith, ⊎_elim}
use Rattle.std.specs.Prelude.{is_some, count_by, ◌==◌}
use Rattle.std.proofs.lemmas.Bool.{cases_lt, false≢true, eq-eqb, ne_eqb}
use Rattle.std.proofs.lemmas.List.{get_or_past}
use Rattle.std.proofs.lemmas.List.Sums.{sum_by-cons}
use Rattle.std.proofs.lemmas.Option.{none-some}
use Rattle.market.specs.Counting.{is_programme, count_of, sum_below}
use Rattle.market.specs.Stability.{held_by}
use Rattle.market.proofs.Turns.{one_more, no_more}
use Rattle.market.proofs.Tallies.{tally-le-count, count-le-tally, Gap, tally_gap}
use Rattle.market.proofs.Counts.{sum_same}

-- who holds a programme is a candidate
pub holder_lt : (held : List (Option ℕ)) (i p : ℕ) → held_by held i ≡ Some p → i < length held
holder_lt held i p holds =
    ⊎_elim
    (λ within. within)
    (λ past. absurd (none-some p (sym (get_or_past held i None past) ∙ holds)))
    (cases_lt i (length held))

-- where a programme has more holders, one of them does not hold it in the other placement
pub holder_more : (p : ℕ) (fewer more : List (Option ℕ)) → length fewer ≡ length more
    → count_of p fewer < count_of p more → Gap (held_by fewer) (held_by more) (length more) p
holder_more p fewer more same less =
    let n = length more in
    let at_most = tally-le-count (λ j. j) p n (λ i j x y s. omega arith) fewer in
    let at_least = count-le-tally (λ j. j) p n more
    (λ i h. record { turn = i; before = holder_lt more i p h; is_theirs = refl }) in
    tally_gap (held_by fewer) (held_by more) n p (omega arith)

-- ---- sums over programmes

-- one where it is the programme, and else nothing
abbrev one_at : Option ℕ → ℕ → ℕ
one_at holds p = cond {A = ℕ} (is_programme p holds) 1 0

sum_none : (n : ℕ) → sum_below (one_at None) n ≡ 0
sum_none zero = refl
sum_none (suc n) = let ih = sum_none n in omega arith

sum_add : (f g : ℕ → ℕ) (n : ℕ) → sum_below (λ p. f p + g p) n ≡ sum_below f n + sum_below g n
sum_add f g zero = refl
sum_add f g (suc n) = let ih = sum_add f g n in omega arith

-- a programme is counted at itself alone
sum_past : (q n : ℕ) → n ≤ q → sum_below (one_at (Some q)) n ≡ 0
sum_past q zero l = refl
sum_past q (suc n) l =
    let ih = sum_past q n (omega arith) in
    let none = no_more (q == n) (ne_eqb q n (λ e. omega arith)) in
    omega arith

sum_one : (q n : ℕ) → q < n → sum_below (one_at (Some q)) n ≡ 1
sum_one q zero l = absurd (omega arith)
sum_one q (suc n) l =
    ⊎_elim
    (λ less.
    let ih = sum_one q n less in
    let none = no_more (q == n) (ne_eqb q n (λ e. omega arith)) in
    omega arith)
    (λ more.
    let ih = sum_past q n more in
    let one = one_more (q == n) (eq-eqb q n (omega arith)) in
    omega arith)
    (cases_lt q n)

sum_value : (n : ℕ) (holds : Option ℕ) → ((q : ℕ) → holds ≡ Some q → q < n)
    → sum_below (one_at holds) n ≡ cond {A = ℕ} (is_some holds) 1 0
sum_value n None within = sum_none n
sum_value n (Some q) within = sum_one q n (within q refl)

-- ---- the candidates placed

-- how many candidates hold a programme
unfoldable pub placed_count : List (Option ℕ) → ℕ
placed_count held = count_by (λ (holds : Option ℕ). is_some holds) held

-- the holders of all programmes are these candidates
pub sum_holders : (n : ℕ) (held : List (Option ℕ))
    → ((i q : ℕ) → held_by held i ≡ Some q → q < n)
    → sum_below (λ p. count_of p held) n ≡ placed_count held
unfolding placed_count
sum_holders n [] within = sum_none n
sum_holders n (x ∷ held) within =
    let ih = sum_holders n held (λ i q e. within (suc i) q e) in
    let first = sum_value n x (λ q e. within 0 q e) in
    let split = sum_same (λ p. count_of p (x ∷ held)) (λ p. one_at x p + count_of p held) n
    (λ p l. sum_by-cons (one_by p) x held) in
    let sums = sum_add (one_at x) (λ p. count_of p held) n in
    let placed = sum_by-cons (λ (o : Option ℕ). cond {A = ℕ} (is_some o) 1 0) x held in
    omega arith
  where
    one_by : ℕ → Option ℕ → ℕ
    one_by p o = cond {A = ℕ} (is_programme p o) 1 0

is_le : (a b : Bool) → (a ≡ true → b ≡ true) → cond {A = ℕ} a 1 0 ≤ cond {A = ℕ} b 1 0
is_le true true h = omega arith
is_le true false h = absurd (false≢true (h refl))
is_le false true h = omega arith
is_le false false h = omega arith

placed-cons : (x : Option ℕ) (xs : List (Option ℕ))
    → placed_count (x ∷ xs) ≡ cond {A = ℕ} (is_some x) 1 0 + placed_count xs
unfolding placed_count
placed-cons x xs = sum_by-cons (λ (o : Option ℕ). cond {A = ℕ} (is_some o) 1 0) x xs

-- who is placed in the first placement is placed in the second
abbrev pub KeepsPlaced : List (Option ℕ) → List (Option ℕ) → Type 0
KeepsPlaced xs ys = (i : ℕ) → is_some (held_by xs i) ≡ true → is_some (held_by ys i) ≡ true

-- then the second has no fewer
pub placed_le : (xs ys : List (Option ℕ)) → length xs ≡ length ys → KeepsPlaced xs ys
    → placed_count xs ≤ placed_count ys
unfolding placed_count
placed_le [] ys e kept = omega arith
placed_le (x ∷ xs) [] e kept = absurd (omega arith)
placed_le (x ∷ xs) (y ∷ ys) e kept =
    let a = placed-cons x xs in
    let b = placed-cons y ys in
    let here = is_le (is_some x) (is_some y) (kept 0) in
    let ih = placed_le xs ys (omega arith) (λ i. kept (suc i)) in
    omega arith

-- and more where it places somebody whom the first does not
pub placed_lt : (xs ys : List (Option ℕ)) (i : ℕ) → length xs ≡ length ys → KeepsPlaced xs ys
    → is_some (held_by xs i) ≡ false → is_some (held_by ys i) ≡ true
    → placed_count xs < placed_count ys
placed_lt [] [] i e kept not_first second = absurd (false≢true second)
placed_lt [] (y ∷ ys) i e kept not_first second = absurd (omega arith)
placed_lt (x ∷ xs) [] i e kept not_first second = absurd (omega arith)
placed_lt (x ∷ xs) (y ∷ ys) zero e kept not_first second =
    let a = placed-cons x xs in
    let b = placed-cons y ys in
    let none = no_more (is_some x) not_first in
    let one = one_more (is_some y) second in
    let rest = placed_le xs ys (omega arith) (λ i. kept (suc i)) in
    omega arith
placed_lt (x ∷ xs) (y ∷ ys) (suc i) e kept not_first second =
    let a = placed-cons x xs in
    let b = placed-cons y ys in
    let here = is_le (is_some x) (is_some y) (kept 0) in
    let ih = placed_lt xs ys i (omega arith) (λ j. kept (suc j)) not_first second in
    omega arith
