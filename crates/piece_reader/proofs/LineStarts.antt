-- The first line start from a place on: the formula gives it, and later places do not give an
-- earlier one.
use Rattle.std.proofs.Common.{◌≡◌, ◌≢◌, ◌⊎◌, ℕ, zero, suc, ◌+◌, ◌-◌, ◌*◌, ◌/◌, ◌<◌, ◌≤◌, Bool, true, false, List, [], ◌∷◌, length, drop, get_or, refl, sym, ap, ◌∙◌, arith, ◌==◌, ⊎_elim, inl, inr, subst, if◌then◌else◌, length-drop}
use Rattle.std.proofs.lemmas.Bool.{cases_lt}
use Rattle.std.proofs.lemmas.Bool.Decides.{nat_tests}
use Rattle.std.proofs.lemmas.List.{get_or-drop}
use Rattle.std.proofs.Math.Nat.{add-mul, div-le_of_le-mul, div-mul-le_self, mul-le-mul_right}
use Rattle.std.proofs.lemmas.Nat.{le-div}
use Rattle.place_base.specs.declared.limits.TheConstants.{LF}
use Rattle.piece_reader.specs.Parts.{AreCuts, FollowsLf, IsLineStart, cut_of, first_line, line_start}

-- what the first line of some bytes is
record IsFirstLine (bytes : List ℕ) (end : ℕ) : Type 0 where
  inside : end ≤ length bytes
  some : 0 < length bytes → 0 < end
  follows : ((0 < end) × (get_or bytes (end - 1) 0 ≡ LF)) ⊎ (end ≡ length bytes)
  least : (k : ℕ) → get_or bytes k 0 ≡ LF → end ≤ k + 1

first_line-is : (bytes : List ℕ) → IsFirstLine bytes (first_line bytes)
first_line-is [] = record {
  inside = omega arith;
  some = λ lt. lt;
  follows = inr refl;
  least = λ k lf. omega arith;
}
first_line-is (byte ∷ bytes) = by (byte == LF) refl (first_line-is bytes)
  where
    longer : IsFirstLine bytes (first_line bytes)
        → ((0 < suc (first_line bytes))
        × (get_or (byte ∷ bytes) (suc (first_line bytes) - 1) 0 ≡ LF))
        ⊎ (suc (first_line bytes) ≡ suc (length bytes))
    longer f = ⊎_elim
        (λ (here : (0 < first_line bytes) × (get_or bytes (first_line bytes - 1) 0 ≡ LF)).
        let k : suc (first_line bytes) - 1 ≡ suc (first_line bytes - 1) = omega (arith, here.0) in
        inl (omega arith, ap (λ n. get_or (byte ∷ bytes) n 0) k ∙ here.1))
        (λ (end : first_line bytes ≡ length bytes). inr (ap suc end))
        f.follows

    least-behind : byte ≢ LF → IsFirstLine bytes (first_line bytes) → (k : ℕ)
        → get_or (byte ∷ bytes) k 0 ≡ LF → suc (first_line bytes) ≤ k + 1
    least-behind other f zero lf = absurd (other lf)
    least-behind other f (suc k) lf = omega (arith, f.least k lf)

    by : (t : Bool) → (byte == LF) ≡ t → IsFirstLine bytes (first_line bytes)
        → IsFirstLine (byte ∷ bytes) (if t then 1 else suc (first_line bytes))
    by true e f = record {
      inside = omega arith;
      some = λ lt. omega arith;
      follows = inl (omega arith, grind (arith, nat_tests));
      least = λ k lf. omega arith;
    }
    by false e f = let other : byte ≢ LF = grind (arith, nat_tests) in record {
      inside = omega (arith, f.inside);
      some = λ lt. omega arith;
      follows = longer f;
      least = least-behind other f;
    }

-- where the first LF is known
pub first_line-found : (bytes : List ℕ) (at : ℕ) → at < length bytes → get_or bytes at 0 ≡ LF
    → ((k : ℕ) → k < at → get_or bytes k 0 ≢ LF) → first_line bytes ≡ at + 1
first_line-found bytes at within lf none =
    let f = first_line-is bytes in
    let low = f.least at lf in
    let some = f.some (omega arith) in
    ⊎_elim
    (λ (here : (0 < first_line bytes) × (get_or bytes (first_line bytes - 1) 0 ≡ LF)).
    ⊎_elim
    (λ (before : first_line bytes - 1 < at). absurd (none (first_line bytes - 1) before here.1))
    (λ (past : at ≤ first_line bytes - 1). omega arith)
    (cases_lt (first_line bytes - 1) at))
    (λ (end : first_line bytes ≡ length bytes). omega arith)
    f.follows

-- where there is no LF
pub first_line-whole : (bytes : List ℕ) → ((k : ℕ) → k < length bytes → get_or bytes k 0 ≢ LF)
    → first_line bytes ≡ length bytes
first_line-whole bytes none =
    let f = first_line-is bytes in
    let inside = f.inside in
    ⊎_elim
    (λ (here : (0 < first_line bytes) × (get_or bytes (first_line bytes - 1) 0 ≡ LF)).
    absurd (none (first_line bytes - 1) (omega (arith, here.0)) here.1))
    (λ (end : first_line bytes ≡ length bytes). end)
    f.follows

-- the formula gives the line start
pub line_start-is : (bytes : List ℕ) (from : ℕ) → from ≤ length bytes
    → IsLineStart bytes from (line_start bytes from)
line_start-is bytes from le =
    let before = from - 1 in
    let f = first_line-is (drop before bytes) in
    let size : length (drop before bytes) ≡ length bytes - before = length-drop before bytes in
    let inside = f.inside in
    record {
      past = past-of f.some;
      inside = omega arith;
      follows = ⊎_elim
          (λ (here : (0 < first_line (drop before bytes))
          × (get_or (drop before bytes) (first_line (drop before bytes) - 1) 0 ≡ LF)).
          let at : before + (first_line (drop before bytes) - 1) ≡ line_start bytes from - 1 =
          omega (arith, here.0) in
          inl (record {
            behind = omega (arith, here.0);
            lf = ap (λ n. get_or bytes n 0) (sym at)
                ∙ sym (get_or-drop before bytes (first_line (drop before bytes) - 1) 0) ∙ here.1;
          }))
          (λ (end : first_line (drop before bytes) ≡ length (drop before bytes)). inr (omega arith))
          f.follows;
      least = λ other low lf.
          let behind = lf.behind in
          let at : before + (other - 1 - before) ≡ other - 1 = omega arith in
          let found : get_or (drop before bytes) (other - 1 - before) 0 ≡ LF =
          get_or-drop before bytes (other - 1 - before) 0 ∙ ap (λ n. get_or bytes n 0) at ∙ lf.lf in
          let least = f.least (other - 1 - before) found in
          omega arith;
    }
  where
    past-of : (0 < length (drop (from - 1) bytes) → 0 < first_line (drop (from - 1) bytes))
        → from ≤ line_start bytes from
    past-of some = ⊎_elim
        (λ (positive : 0 < from).
        let size : length (drop (from - 1) bytes) ≡ length bytes - (from - 1) =
        length-drop (from - 1) bytes in
        let more = some (omega arith) in omega arith)
        (λ (none : from ≤ 0). omega arith)
        (cases_lt 0 from)

-- a later place has no earlier line start
pub IsLineStart-rises : (bytes : List ℕ) (from other place next : ℕ) → from ≤ other
    → IsLineStart bytes from place → IsLineStart bytes other next → place ≤ next
IsLineStart-rises bytes from other place next le a b =
    ⊎_elim
    (λ (lf : FollowsLf bytes next). a.least next (omega (arith, b.past)) lf)
    (λ (end : next ≡ length bytes). omega (arith, a.inside))
    b.follows

module _ (bytes : List ℕ) (pieces : ℕ) (some : 0 < pieces) where
  share-inside : (k : ℕ) → k ≤ pieces → k * length bytes / pieces ≤ length bytes
  share-inside k le =
      div-le_of_le-mul pieces {m = k * length bytes} {n = length bytes}
      (mul-le-mul_right {m = k} {n = pieces} (length bytes) le)

  share-rises : (k : ℕ) → k * length bytes / pieces ≤ (k + 1) * length bytes / pieces
  share-rises k =
      let more : (k + 1) * length bytes ≡ k * length bytes + 1 * length bytes =
      add-mul k 1 (length bytes) in
      le-div (k * length bytes / pieces) ((k + 1) * length bytes) pieces some
      (omega (arith, div-mul-le_self (k * length bytes) pieces))

  cut_of-first : cut_of bytes pieces 0 ≡ 0
  cut_of-first = refl

  -- the last cut is at the file's end
  pub cut_of-last : cut_of bytes pieces pieces ≡ length bytes
  cut_of-last =
      let not_zero : (pieces == 0) ≡ false = grind (arith, nat_tests) in
      let same : (pieces == pieces) ≡ true = grind (arith, nat_tests) in
      rw (not_zero, same) refl

  -- between the ends a cut is the first line start from the piece's share of the bytes on
  pub cut_of-between : (k : ℕ) → 0 < k → k < pieces
      → cut_of bytes pieces k ≡ line_start bytes (k * length bytes / pieces)
  cut_of-between k low high =
      let not_zero : (k == 0) ≡ false = grind (arith, nat_tests) in
      let other : (k == pieces) ≡ false = grind (arith, nat_tests) in
      rw (not_zero, other) refl

  -- so these are cuts of the file into so many pieces
  pub AreCuts-cut_of : AreCuts bytes pieces (cut_of bytes pieces)
  AreCuts-cut_of = record {
    first = cut_of-first;
    last = cut_of-last;
    between = λ k low high.
        subst (IsLineStart bytes (k * length bytes / pieces)) (sym (cut_of-between k low high))
        (line_start-is bytes (k * length bytes / pieces) (share-inside k (omega arith)));
  }

  -- no cut is past the file's end
  pub cut_of-inside : (k : ℕ) → k ≤ pieces → cut_of bytes pieces k ≤ length bytes
  cut_of-inside k le = ⊎_elim
      (λ (low : 0 < k). ⊎_elim
      (λ (high : k < pieces). (AreCuts-cut_of.between k low high).inside)
      (λ (past : pieces ≤ k). let last : pieces ≡ k = omega arith in
      subst (λ n. cut_of bytes pieces n ≤ length bytes) last (omega (arith, cut_of-last)))
      (cases_lt k pieces))
      (λ (none : k ≤ 0). let first : 0 ≡ k = omega arith in
      subst (λ n. cut_of bytes pieces n ≤ length bytes) first (omega arith))
      (cases_lt 0 k)

  -- and no cut is before the one in front of it
  pub cut_of-rises : (k : ℕ) → k < pieces → cut_of bytes pieces k ≤ cut_of bytes pieces (k + 1)
  cut_of-rises k lt = ⊎_elim
      (λ (low : 0 < k). ⊎_elim
      (λ (high : k + 1 < pieces).
      IsLineStart-rises bytes (k * length bytes / pieces) ((k + 1) * length bytes / pieces)
      (cut_of bytes pieces k) (cut_of bytes pieces (k + 1)) (share-rises k)
      (AreCuts-cut_of.between k low (omega arith))
      (AreCuts-cut_of.between (k + 1) (omega arith) high))
      (λ (past : pieces ≤ k + 1). let last : pieces ≡ k + 1 = omega arith in
      subst (λ n. cut_of bytes pieces k ≤ cut_of bytes pieces n) last
      (omega (arith, cut_of-last, cut_of-inside k (omega arith))))
      (cases_lt (k + 1) pieces))
      (λ (none : k ≤ 0). let first : 0 ≡ k = omega arith in
      subst (λ n. cut_of bytes pieces n ≤ cut_of bytes pieces (n + 1)) first (omega arith))
      (cases_lt 0 k)
