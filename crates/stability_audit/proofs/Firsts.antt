-- The first candidate at whom a test answers true, from the answers of all.
use Rattle.std.proofs.Common.{◌≡◌, ℕ, zero, suc, ◌+◌, ◌-◌, ◌^◌, ◌<◌, Bool, true, false, List, [], ◌∷◌, length, Option, Some, None, refl, sym, ap, ◌∙◌, subst, arith, get_or, min, zero-add}
use Rattle.std.specs.Prelude.{◌↔◌, IsTrue}
use Rattle.std.specs.List.{AllZip, range_with_len}
use Rattle.std.specs.Option.{option_map}
use Rattle.std.proofs.lemmas.Bool.{false≢true}
use Rattle.std.proofs.lemmas.List.FromFn.{length-range_with_len, get_or-range_with_len}
use Rattle.rayon.specs.Lists.{first_true}

-- k is the first place at which P holds
pub record IsFirstAt (P : ℕ → Type 0) (xs : List ℕ) (k : ℕ) : Type 0 where
  pub within : k < length xs
  pub holds : P (get_or xs k 0)
  pub before : (j : ℕ) → j < k → P (get_or xs j 0) → ⊥

-- the first place at which P holds, or none where it holds nowhere
abbrev IsFoundAt : (ℕ → Type 0) → List ℕ → Option ℕ → Type 0
IsFoundAt P xs (Some k) = IsFirstAt P xs k
IsFoundAt P xs None = (j : ℕ) → j < length xs → P (get_or xs j 0) → ⊥

-- where P does not hold of x it holds at no place before one that has moved up behind x
not-before : (P : ℕ → Type 0) (x : ℕ) (xs : List ℕ) (k : ℕ) → (P x → ⊥)
    → ((j : ℕ) → j < k → P (get_or xs j 0) → ⊥)
    → (j : ℕ) → j < suc k → P (get_or (x ∷ xs) j 0) → ⊥
not-before P x xs k not_x before zero l h = not_x h
not-before P x xs k not_x before (suc j) l h = before j (omega arith) h

-- an entry before all that were looked at
found-later : (P : ℕ → Type 0) (x : ℕ) (xs : List ℕ) (o : Option ℕ) → (P x → ⊥)
    → length xs + 1 < 2 ^ 64 → IsFoundAt P xs o
    → IsFoundAt P (x ∷ xs) (option_map (λ j. min (j + 1) (2 ^ 64 - 1)) o)
found-later P x xs None not_x small none = not-before P x xs (length xs) not_x none
found-later P x xs (Some k) not_x small first =
    let within = first.within in
    let same : suc k ≡ min (k + 1) (2 ^ 64 - 1) = omega arith in
    subst (λ (n : ℕ). IsFirstAt P (x ∷ xs) n) same
    (record {
      within = omega arith;
      holds = first.holds;
      before = not-before P x xs k not_x first.before;
    })

-- the first answer that is true is where P holds first, and where none is true it holds nowhere
found-at : (P : ℕ → Type 0) (xs : List ℕ) (bs : List Bool)
    → AllZip (λ x b. IsTrue b ↔ P x) xs bs → length xs < 2 ^ 64 → IsFoundAt P xs (first_true bs)
found-at P [] [] h small = λ j l. absurd (omega arith)
found-at P [] (b ∷ bs) h small = absurd h
found-at P (x ∷ xs) [] h small = absurd h
found-at P (x ∷ xs) (true ∷ bs) h small =
    record { within = omega arith; holds = h.0.0 refl; before = λ j l. absurd (omega arith) }
found-at P (x ∷ xs) (false ∷ bs) h small =
    found-later P x xs (first_true bs) (λ px. false≢true (h.0.1 px)) (omega arith)
    (found-at P xs bs h.1 (omega arith))

-- k is the first number below n at which P holds
pub record IsFirstBelow (P : ℕ → Type 0) (n k : ℕ) : Type 0 where
  pub within : k < n
  pub holds : P k
  pub before : (j : ℕ) → j < k → P j → ⊥

-- the first number below n at which P holds, or none where it holds of no such number
abbrev pub IsFound : (ℕ → Type 0) → ℕ → Option ℕ → Type 0
IsFound P n (Some k) = IsFirstBelow P n k
IsFound P n None = (j : ℕ) → j < n → P j → ⊥

-- in the row of the numbers below n a place is its number
found-below : (P : ℕ → Type 0) (n : ℕ) (o : Option ℕ) → IsFoundAt P (range_with_len 0 n) o
    → IsFound P n o
found-below P n None none = λ j l p.
    let size = length-range_with_len 0 n in
    none j (omega arith) (subst P (sym (get_or-range_with_len 0 n j 0 l ∙ zero-add j)) p)
found-below P n (Some k) first =
    let size = length-range_with_len 0 n in
    let within = first.within in
    let at : (j : ℕ) → j < n → get_or (range_with_len 0 n) j 0 ≡ j
    = λ j l. get_or-range_with_len 0 n j 0 l ∙ zero-add j in
    record {
      within = omega arith;
      holds = subst P (at k (omega arith)) first.holds;
      before = λ j l p. first.before j l (subst P (sym (at j (omega arith))) p);
    }

-- an item of the numbers from 0 to n is below n
pub item-below : (start end n k d : ℕ) → start ≡ 0 → end ≡ n
    → k < length (range_with_len start (end - start))
    → get_or (range_with_len start (end - start)) k d < n
item-below start end n k d from_zero to_end l =
    let size = length-range_with_len start (end - start) in
    let at = get_or-range_with_len start (end - start) k d (omega arith) in
    omega arith

-- what a search that asks at each number from 0 to n found
pub searched : (P : ℕ → Type 0) (start end n : ℕ) (found : Option ℕ) → start ≡ 0 → end ≡ n
    → n < 2 ^ 64
    → ((xs : List ℕ) × (bs : List Bool) × (xs ≡ range_with_len start (end - start))
    × AllZip (λ x b. IsTrue b ↔ P x) xs bs × (found ≡ first_true bs))
    → IsFound P n found
searched P start end n found from_zero to_end small (xs, bs, items, asked, is) =
    let count : end - start ≡ n = omega arith in
    let row = items ∙ ap (λ s. range_with_len s (end - start)) from_zero
    ∙ ap (range_with_len 0) count in
    let size = length-range_with_len 0 n in
    subst (IsFound P n) (sym is) (found-below P n (first_true bs)
    (found-at P (range_with_len 0 n) bs
    (subst (λ ys. AllZip (λ x b. IsTrue b ↔ P x) ys bs) row asked) (omega arith)))
