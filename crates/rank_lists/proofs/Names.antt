-- The bytes of a type's name as a number: it fits a word, and no two names have the same.
use Rattle.std.proofs.Common.{◌≡◌, ℕ, suc, ◌+◌, ◌*◌, ◌^◌, ◌<◌, ◌≤◌, ◌&&◌, List, [], ◌∷◌, true, length, nat_le, refl, arith, add-one}
use Rattle.std.specs.List.{list_all}
use Rattle.std.proofs.Math.Nat.{pow-suc, pow-le-pow_right}
use Rattle.std.proofs.lemmas.Bool.{and_parts}
use Rattle.std.proofs.lemmas.Bool.Decides.{nat_tests}
use Rattle.place_base.specs.TypeName.{is_type_byte, is_type_name}
use Rattle.rank_lists.specs.Groups.{name_number}

-- one byte more
pub name-fits : (k v b : ℕ) → v < 256 ^ k → b < 256 → v * 256 + b < 256 ^ (k + 1)
name-fits k v b small byte = let step : 256 ^ (k + 1) ≡ 256 ^ k * 256 =
    rw add-one (pow-suc 256 k) in omega arith

-- at most eight bytes
pub short-name : (k : ℕ) → k ≤ 8 → 256 ^ k ≤ 256 ^ 8
short-name k le = pow-le-pow_right {n = 256} (omega arith) {i = k} {j = 8} le

-- bytes that are not 0
abbrev pub AreBytes : List ℕ → Type 0
AreBytes [] = Unit {0}
AreBytes (b ∷ bs) = ((1 ≤ b) × (b < 256)) × AreBytes bs

names-same : (a b : List ℕ) → AreBytes a → AreBytes b → name_number a ≡ name_number b → a ≡ b
names-same [] [] g h e = refl
names-same [] (b ∷ bs) g h e = let low : 1 ≤ b = h.0.0 in absurd (omega arith)
names-same (a ∷ as') [] g h e = let low : 1 ≤ a = g.0.0 in absurd (omega arith)
names-same (a ∷ as') (b ∷ bs) g h e =
    let high_a : a < 256 = g.0.1 in
    let high_b : b < 256 = h.0.1 in
    let both : name_number as' * 256 + a ≡ name_number bs * 256 + b = e in
    let head : a ≡ b = omega arith in
    let numbers : name_number as' ≡ name_number bs = omega arith in
    let rest : as' ≡ bs = names-same as' bs g.1 h.1 numbers in
    cc

type-byte : (b : ℕ) → is_type_byte b ≡ true → (1 ≤ b) × (b < 256)
type-byte b h = (grind (arith, nat_tests), grind (arith, nat_tests))

type-bytes : (bs : List ℕ) → list_all is_type_byte bs ≡ true → AreBytes bs
type-bytes [] h = tt
type-bytes (b ∷ bs) h = let both =
    and_parts (is_type_byte b) (list_all is_type_byte bs) h in
    (type-byte b both.0, type-bytes bs both.1)

-- what a name of a type is
pub record IsName (text : List ℕ) : Type 0 where
  pub short : length text ≤ 8
  pub bytes : AreBytes text

-- what passes the test of a type's name is one
pub IsName-from : (text : List ℕ) → is_type_name text ≡ true → IsName text
IsName-from text h =
    let parts = and_parts _ (list_all is_type_byte text) h in
    record { short = name-length text parts.0; bytes = type-bytes text parts.1 }
  where
    name-length : (text : List ℕ) → (nat_le 1 (length text) && nat_le (length text) 8) ≡ true
        → length text ≤ 8
    name-length text h = grind (arith, nat_tests)

-- names with the same number are the same
pub IsName-same : (a b : List ℕ) → IsName a → IsName b → name_number a ≡ name_number b → a ≡ b
IsName-same a b g h e = names-same a b g.bytes h.bytes e
