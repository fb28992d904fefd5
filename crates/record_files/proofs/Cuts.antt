-- Cutting bytes at a byte.
use Rattle.std.proofs.Common.{◌≡◌, ◌≢◌, ℕ, zero, suc, ◌+◌, ◌<◌, List, [], ◌∷◌, length, take, drop, get_or, refl, ap, ◌∙◌, arith, true, false, ◌==◌}
use Rattle.std.proofs.lemmas.Bool.Decides.{nat_tests}
use Rattle.std.specs.List.{onto_first}
use Rattle.record_files.specs.Rows.{split}

split-at_same : (c b : ℕ) (bs : List ℕ) → b ≡ c → split c (b ∷ bs) ≡ [] ∷ split c bs
split-at_same c b bs e = let t : (b == c) ≡ true = grind (arith, nat_tests) in rw t refl

split-at_other : (c b : ℕ) (bs : List ℕ) → b ≢ c → split c (b ∷ bs) ≡ onto_first b (split c bs)
split-at_other c b bs e = let t : (b == c) ≡ false = grind (arith, nat_tests) in rw t refl

-- bytes with no c are one piece
pub split-whole : (c : ℕ) (bs : List ℕ) → ((k : ℕ) → k < length bs → get_or bs k 0 ≢ c)
    → split c bs ≡ bs ∷ []
split-whole c [] h = refl
split-whole c (b ∷ bs) h =
    split-at_other c b bs (h 0 (omega arith))
    ∙ ap (onto_first b) (split-whole c bs (λ k lt. h (suc k) (omega arith)))

-- the first piece ends at the first c
pub split-cut : (c : ℕ) (bs : List ℕ) (i : ℕ) → i < length bs → get_or bs i 0 ≡ c
    → ((k : ℕ) → k < i → get_or bs k 0 ≢ c)
    → split c bs ≡ take i bs ∷ split c (drop (i + 1) bs)
split-cut c [] i lt e h = absurd (omega arith)
split-cut c (b ∷ bs) zero lt e h = split-at_same c b bs e
split-cut c (b ∷ bs) (suc i) lt e h =
    split-at_other c b bs (h 0 (omega arith))
    ∙ ap (onto_first b) (split-cut c bs i (omega arith) e (λ k below. h (suc k) (omega arith)))
    ∙ (let n : suc (i + 1) ≡ suc i + 1 = omega arith in
    ap (λ m. (b ∷ take i bs) ∷ split c (drop m (b ∷ bs))) n)
