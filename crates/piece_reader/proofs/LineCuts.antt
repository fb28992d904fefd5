-- Cutting a file behind an LF cuts its rows: the rows up to the cut, and the rows of the rest
-- counted from its line, are the rows of the whole.
use Rattle.std.proofs.Common.{◌≡◌, ℕ, suc, ◌+◌, Bool, true, false, cond, List, [], ◌∷◌, ◌++◌, length, refl, sym, ap, ◌∙◌, arith, ◌==◌, if◌then◌else◌, nat_eq, ◌&&◌}
use Rattle.std.proofs.lemmas.Bool.Decides.{nat_tests}
use Rattle.std.proofs.lemmas.List.{append-nil}
use Rattle.std.proofs.lemmas.List.Sums.{sum_by-cons}
use Rattle.std.specs.List.{onto_first, starts_with}
use Rattle.std.specs.Str.Lines.{strip_carriage_return}
use Rattle.place_base.specs.declared.limits.TheConstants.{BYTE_ORDER_MARK, LF}
use Rattle.record_files.specs.Rows.{Row, split, numbered, row_and, without_mark}
use Rattle.piece_reader.specs.Parts.{line_ends}

-- there is at least one piece
record IsSome (pieces : List (List ℕ)) : Type 0 where
  first : List ℕ
  others : List (List ℕ)
  is : pieces ≡ first ∷ others

onto_first-some : (b : ℕ) (pieces : List (List ℕ)) → IsSome (onto_first b pieces)
onto_first-some b [] = record { first = b ∷ []; others = []; is = refl }
onto_first-some b (piece ∷ pieces) = record { first = b ∷ piece; others = pieces; is = refl }

split-some : (bs : List ℕ) → IsSome (split LF bs)
split-some [] = record { first = []; others = []; is = refl }
split-some (b ∷ bs) =
    elim (b == LF) as (λ t. IsSome (if t then [] ∷ split LF bs else onto_first b (split LF bs))) [
      | true ↦ record { first = []; others = split LF bs; is = refl }
      | false ↦ onto_first-some b (split LF bs)
    ]

onto_first-append : (b : ℕ) (pieces more : List (List ℕ)) → IsSome pieces
    → onto_first b (pieces ++ more) ≡ onto_first b pieces ++ more
onto_first-append b pieces more s = rw (s.is) refl

-- bytes behind an LF are cut by themselves
pub split-behind_lf : (front back : List ℕ)
    → split LF (front ++ LF ∷ back) ≡ split LF front ++ split LF back
split-behind_lf [] back = refl
split-behind_lf (b ∷ front) back =
    let later = split-behind_lf front back in
    elim (b == LF) as
    (λ t. (if t then [] ∷ split LF (front ++ LF ∷ back)
    else onto_first b (split LF (front ++ LF ∷ back)))
    ≡ (if t then [] ∷ split LF front else onto_first b (split LF front)) ++ split LF back) [
      | true ↦ ap (λ pieces. [] ∷ pieces) later
      | false ↦ ap (onto_first b) later
          ∙ onto_first-append b (split LF front) (split LF back) (split-some front)
    ]

row_and-append : (line : ℕ) (text : List ℕ) (xs ys : List Row)
    → row_and line text (xs ++ ys) ≡ row_and line text xs ++ ys
row_and-append line [] xs ys = refl
row_and-append line (b ∷ text) xs ys = refl

-- lines behind others are counted on
pub numbered-append : (line : ℕ) (texts more : List (List ℕ))
    → numbered line (texts ++ more) ≡ numbered line texts ++ numbered (line + length texts) more
numbered-append line [] more = let same : line ≡ line + 0 = omega arith in
    ap (λ n. numbered n more) same
numbered-append line (text ∷ texts) more =
    let later = numbered-append (line + 1) texts more in
    let count : line + 1 + length texts ≡ line + suc (length texts) = omega arith in
    ap (row_and line (strip_carriage_return text)) later
    ∙ row_and-append line (strip_carriage_return text) (numbered (line + 1) texts)
    (numbered (line + 1 + length texts) more)
    ∙ ap (λ n. numbered line (text ∷ texts) ++ numbered n more) count

length-onto_first : (b : ℕ) (pieces : List (List ℕ)) → IsSome pieces
    → length (onto_first b pieces) ≡ length pieces
length-onto_first b pieces s = rw (s.is) refl

-- there is one piece more than there are LFs
pub length-split : (bs : List ℕ) → length (split LF bs) ≡ 1 + line_ends bs
length-split [] = refl
length-split (b ∷ bs) =
    let later = length-split bs in
    let counts : line_ends (b ∷ bs) ≡ cond (b == LF) 1 0 + line_ends bs =
    sum_by-cons (λ byte. cond (byte == LF) 1 0) b bs in
    let same = length-onto_first b (split LF bs) (split-some bs) in
    let other : length (onto_first b (split LF bs)) ≡ 1 + (0 + line_ends bs) = omega arith in
    let lf : suc (length (split LF bs)) ≡ 1 + (1 + line_ends bs) = omega arith in
    let one = elim (b == LF) as
    (λ t. length (if t then [] ∷ split LF bs else onto_first b (split LF bs))
    ≡ 1 + (cond t 1 0 + line_ends bs))
    [ true ↦ lf | false ↦ other ] in
    one ∙ ap (λ n. 1 + n) (sym counts)

-- the rows of bytes that end with an LF, and the rows behind it counted on
pub numbered-behind_lf : (line : ℕ) (front back : List ℕ)
    → numbered line (split LF (front ++ LF ∷ back))
    ≡ numbered line (split LF (front ++ LF ∷ []))
    ++ numbered (line + 1 + line_ends front) (split LF back)
numbered-behind_lf line front back =
    let whole = ap (numbered line) (split-behind_lf front back)
    ∙ numbered-append line (split LF front) (split LF back) in
    let alone = ap (numbered line) (split-behind_lf front [])
    ∙ numbered-append line (split LF front) ([] ∷ [])
    ∙ append-nil (numbered line (split LF front)) in
    let count : line + length (split LF front) ≡ line + 1 + line_ends front =
    omega (arith, length-split front) in
    whole ∙ ap (λ n. numbered line (split LF front) ++ numbered n (split LF back)) count
    ∙ ap (λ rows. rows ++ numbered (line + 1 + line_ends front) (split LF back)) (sym alone)

-- a mark is dropped in front of an LF, so what it leaves still ends there
pub record IsUnmarked (front : List ℕ) : Type 0 where
  pub left : List ℕ
  pub dropped : (back : List ℕ) → without_mark (front ++ LF ∷ back) ≡ left ++ LF ∷ back
  pub same : line_ends left ≡ line_ends front

unmarked-as_is : (front : List ℕ)
    → ((back : List ℕ) → without_mark (front ++ LF ∷ back) ≡ front ++ LF ∷ back)
    → IsUnmarked front
unmarked-as_is front h = record { left = front; dropped = h; same = refl }

both-false : (p q : Bool) → (p && (q && false)) ≡ false
both-false true true = refl
both-false true false = refl
both-false false q = refl

-- the bytes of a mark
is-mark : (a b c : ℕ) → (nat_eq 239 a && (nat_eq 187 b && (nat_eq 191 c && true))) ≡ true
    → (a ≡ 239) × ((b ≡ 187) × (c ≡ 191))
is-mark a b c e = by (nat_eq 239 a) (nat_eq 187 b) (nat_eq 191 c) refl refl refl e
  where
    by : (p q r : Bool) → nat_eq 239 a ≡ p → nat_eq 187 b ≡ q → nat_eq 191 c ≡ r
        → (p && (q && (r && true))) ≡ true → (a ≡ 239) × ((b ≡ 187) × (c ≡ 191))
    by true true true ea eb ec all =
        (grind (arith, nat_tests), (grind (arith, nat_tests), grind (arith, nat_tests)))
    by true true false ea eb ec all = cc
    by true false r ea eb ec all = cc
    by false q r ea eb ec all = cc

-- what does not begin with the mark stays
unmarked : (bytes : List ℕ) → starts_with nat_eq bytes BYTE_ORDER_MARK ≡ false
    → without_mark bytes ≡ bytes
unmarked bytes e = rw e refl

-- so it is with whatever stands in front of an LF
pub without_mark-front : (front : List ℕ) → IsUnmarked front
without_mark-front [] = unmarked-as_is [] (λ back. refl)
without_mark-front (a ∷ []) = unmarked-as_is (a ∷ []) (λ back.
    unmarked (a ∷ LF ∷ back) (both-false (nat_eq 239 a) true))
without_mark-front (a ∷ b ∷ []) = unmarked-as_is (a ∷ b ∷ []) (λ back.
    unmarked (a ∷ b ∷ LF ∷ back) (both-false (nat_eq 239 a) (nat_eq 187 b)))
without_mark-front (a ∷ b ∷ c ∷ front) =
    by (starts_with nat_eq (a ∷ b ∷ c ∷ []) BYTE_ORDER_MARK) refl
  where
    by : (marked : Bool) → starts_with nat_eq (a ∷ b ∷ c ∷ []) BYTE_ORDER_MARK ≡ marked
        → IsUnmarked (a ∷ b ∷ c ∷ front)
    by true e = record {
      left = front;
      dropped = λ back. rw e refl;
      same = let mark = is-mark a b c e in rw (mark.0, mark.1.0, mark.1.1) refl;
    }
    by false e = unmarked-as_is (a ∷ b ∷ c ∷ front)
        (λ back. unmarked (a ∷ b ∷ c ∷ front ++ LF ∷ back) e)
