-- Reading digits one after the other.
use Rattle.std.proofs.Common.{◌≡◌, ℕ, ◌+◌, ◌-◌, ◌*◌, ◌<◌, ◌≤◌, min, List, [], ◌∷◌, length, drop, get_or, refl, ap, ◌∙◌, ◌^◌, arith, add-one, suc, true}
use Rattle.std.specs.Char.{digit_value, is_ascii_digit}
use Rattle.std.specs.Str.Parse.{digits_value_after}
use Rattle.std.proofs.Math.Nat.{pow-suc, pow-le-pow_right}
use Rattle.std.proofs.Math.Seq.{drop-cons}
use Rattle.std.proofs.lemmas.Bool.Decides.{nat_tests}
use Rattle.record_files.specs.Numbers.{all_digits}

all_digits-cons : (b : ℕ) (bs : List ℕ) → is_ascii_digit b ≡ true
    → all_digits (b ∷ bs) ≡ all_digits bs
all_digits-cons b bs h = rw h refl

-- a digit is passed
pub digits-next : (xs : List ℕ) (i : ℕ) → i < length xs → is_ascii_digit (get_or xs i 0) ≡ true
    → all_digits (drop i xs) ≡ all_digits (drop (i + 1) xs)
digits-next xs i lt d = ap all_digits (drop-cons xs i 0 lt)
    ∙ all_digits-cons (get_or xs i 0) (drop (suc i) xs) d ∙ rw add-one refl

-- the value of one digit
digit_value-is : (b : ℕ) → is_ascii_digit b ≡ true → digit_value b ≡ b - 48
digit_value-is b h = grind (arith, nat_tests)

-- a digit is added
pub value-next : (xs : List ℕ) (i v : ℕ) → i < length xs → is_ascii_digit (get_or xs i 0) ≡ true
    → digits_value_after 10 v (drop i xs)
    ≡ digits_value_after 10 (10 * v + (get_or xs i 0 - 48)) (drop (i + 1) xs)
value-next xs i v lt d =
    let digit = digit_value-is (get_or xs i 0) d in
    let step : v * 10 + digit_value (get_or xs i 0) ≡ 10 * v + (get_or xs i 0 - 48) =
    omega arith in
    ap (digits_value_after 10 v) (drop-cons xs i 0 lt) ∙ rw add-one
    (ap (λ w. digits_value_after 10 w (drop (suc i) xs)) step)

-- what is past a bound makes no difference
pub capped : (xs : List ℕ) (v w m : ℕ) → min v m ≡ min w m
    → min (digits_value_after 10 v xs) m ≡ min (digits_value_after 10 w xs) m
capped [] v w m h = h
capped (b ∷ xs) v w m h =
    let same : min (v * 10 + digit_value b) m ≡ min (w * 10 + digit_value b) m =
    same-step (digit_value b) in
    capped xs (v * 10 + digit_value b) (w * 10 + digit_value b) m same
  where
    same-step : (d : ℕ) → min (v * 10 + d) m ≡ min (w * 10 + d) m
    same-step d = omega arith

-- a number of few digits stays small with one digit more
pub digits-fit : (i v d : ℕ) → v < 10 ^ i → d ≤ 9 → 10 * v + d < 10 ^ (i + 1)
digits-fit i v d small digit = let step : 10 ^ (i + 1) ≡ 10 ^ i * 10 =
    rw add-one (pow-suc 10 i) in omega arith

-- 19 digits are below 10^19
pub short-fits : (i : ℕ) → i ≤ 19 → 10 ^ i ≤ 10 ^ 19
short-fits i le = pow-le-pow_right {n = 10} (omega arith) {i = i} {j = 19} le
