-- The word of a desk: twice a number, and one more while the slot is held.
use Rattle.std.proofs.Common.{◌≡◌, ℕ, zero, suc, ◌/◌, ◌%◌, ◌<◌, true, false, List, length, set, get_or, bit_or, eqb, eqb-true, refl, ◌∙◌, arith, get_or-set_same}
use Rattle.std.proofs.lemmas.Nat.{or_shr, or_mod}
use Rattle.std.specs.Int.Bits.{or_zero_r}
use Rattle.registration_desk.specs.Steps.{is_odd}

-- the word once the slot was taken: its number stays, and it is odd
pub or_one : (n : ℕ) → (bit_or n 1 / 2 ≡ n / 2) × (bit_or n 1 % 2 ≡ 1)
or_one n = (or_shr n 1 1 ∙ or_zero_r (n / 2), or_mod n 1 1 ∙ low (n % 2) (omega arith))
  where
    low : (r : ℕ) → r < 2 → bit_or r 1 ≡ 1
    low zero l = refl
    low (suc zero) l = refl
    low (suc (suc r)) l = absurd (omega arith)

-- where the word is odd a take leaves it
pub or_odd : (n : ℕ) → n % 2 ≡ 1 → bit_or n 1 ≡ n
or_odd n odd = let a = (or_one n).0 in let b = (or_one n).1 in omega arith

-- where the test finds a word odd its remainder by 2 is 1
pub odd_word : (n : ℕ) → is_odd n ≡ true → n % 2 ≡ 1
odd_word n e = eqb-true (n % 2) 1 e

-- and where it does not it is 0
pub even_word : (n : ℕ) → is_odd n ≡ false → n % 2 ≡ 0
even_word n e = low (n % 2) (omega arith) e
  where
    low : (r : ℕ) → r < 2 → eqb r 1 ≡ false → r ≡ 0
    low zero l f = refl
    low (suc zero) l f = absurd (cc (f))
    low (suc (suc r)) l f = absurd (omega arith)

-- the first word, once it was stored
pub word_now : (words : List ℕ) (n : ℕ) → length words ≡ 1 → get_or (set words 0 n) 0 0 ≡ n
word_now words n wide = get_or-set_same words 0 n 0 (omega arith)
