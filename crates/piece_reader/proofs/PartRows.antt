-- The rows of the parts, one part after the other, are the rows of the file.
use Rattle.std.proofs.Common.{◌≡◌, ◌⊎◌, ℕ, zero, suc, ◌+◌, ◌-◌, ◌<◌, ◌≤◌, Bool, true, false, cond, List, [], ◌∷◌, ◌++◌, length, take, drop, map, filter, refl, sym, ap, ◌∙◌, arith, ⊎_elim, subst, ◌==◌, zero-add, append_assoc, inl, inr, if◌then◌else◌, length-take, take_all}
use Rattle.std.specs.List.{All, flat_map, range_with_len}
use Rattle.std.specs.Prelude.{slice_range}
use Rattle.std.proofs.Math.Seq.{take-add}
use Rattle.std.proofs.lemmas.Bool.{ltb-false, ltb-true}
use Rattle.std.proofs.lemmas.Bool.Decides.{nat_tests}
use Rattle.std.proofs.lemmas.Grind.{flat_map-append}
use Rattle.std.proofs.lemmas.List.{append-nil, take_more}
use Rattle.std.proofs.lemmas.List.Elements.{All-nil, All-push}
use Rattle.std.proofs.lemmas.List.FromFn.{filter_of_map_range_with_len_more}
use Rattle.std.proofs.lemmas.List.Sums.{count_by-le-length, sum_by-append}
use Rattle.place_base.specs.declared.limits.TheConstants.{LF}
use Rattle.record_files.specs.Rows.{Row, numbered, part_rows, rows, split, without_mark}
use Rattle.record_files.specs.declared.rows.RowPart.{RowPart}
use Rattle.piece_reader.specs.Parts.{AreParts, cut_of, FollowsLf, IsPartOf, is_full, line_ends, part_between, parts_of}
use Rattle.piece_reader.proofs.LineStarts.{AreCuts-cut_of, cut_of-inside, cut_of-last, cut_of-rises}
use Rattle.piece_reader.proofs.LineCuts.{numbered-behind_lf, without_mark-front}

-- what stands before a place is what stands before an earlier one, and what is between
pub take-between : (bytes : List ℕ) (start end : ℕ) → start ≤ end
    → take end bytes ≡ take start bytes ++ slice_range bytes start end
take-between bytes start end le =
    let whole : end ≡ start + (end - start) = omega arith in
    ap (λ n. take n bytes) whole ∙ take-add start (end - start) bytes

-- what stands before a place that follows an LF ends with it
take-follows : (bytes : List ℕ) (place : ℕ) → FollowsLf bytes place → place ≤ length bytes
    → take place bytes ≡ take (place - 1) bytes ++ LF ∷ []
take-follows bytes place lf le =
    let behind = lf.behind in
    let next : place - 1 + 1 ≡ place = omega arith in
    ap (λ n. take n bytes) (sym next) ∙ take_more bytes (place - 1) 0 (omega arith)
    ∙ ap (λ b. take (place - 1) bytes ++ b ∷ []) lf.lf

-- a place at which a file can be cut
abbrev pub IsCutPlace : List ℕ → ℕ → Type 0
IsCutPlace bytes place = (place ≡ 0) ⊎ (FollowsLf bytes place ⊎ (place ≡ length bytes))

-- the rows up to a place
abbrev pub rows_to : List ℕ → ℕ → List Row
rows_to bytes place = rows (take place bytes)

-- no bytes have no rows
part-none : (bytes : List ℕ) (start end : ℕ) → end ≤ start
    → part_rows bytes (part_between bytes start end) ≡ []
part-none bytes start end le =
    let none : end - start ≡ 0 = omega arith in
    let line = 1 + line_ends (take start bytes) in
    ap (λ n. numbered line (split LF (if start == 0 then without_mark (take n (drop start bytes))
    else take n (drop start bytes)))) none
    ∙ elim (start == 0) as (λ t. numbered line (split LF (if t then without_mark [] else [])) ≡ [])
    [ true ↦ refl | false ↦ refl ]

module _ (bytes : List ℕ) where
  part-behind_lf : (start end : ℕ) → FollowsLf bytes start → start ≤ end → end ≤ length bytes
      → rows_to bytes end ≡ rows_to bytes start ++ part_rows bytes (part_between bytes start end)
  part-behind_lf start end lf le inside =
      let front = take (start - 1) bytes in
      let back = slice_range bytes start end in
      let u = without_mark-front front in
      let to_start : take start bytes ≡ front ++ LF ∷ [] =
      take-follows bytes start lf (omega arith) in
      let to_end : take end bytes ≡ front ++ LF ∷ back =
      take-between bytes start end le ∙ ap (λ bs. bs ++ back) to_start
      ∙ append_assoc front (LF ∷ []) back in
      let added : line_ends (front ++ LF ∷ []) ≡ line_ends front + 1 =
      sum_by-append (λ byte. cond (byte == LF) 1 0) front (LF ∷ []) in
      let line : 1 + line_ends (take start bytes) ≡ 1 + 1 + line_ends u.left =
      omega (arith, ap line_ends to_start, added, u.same) in
      let not_first : (start == 0) ≡ false = grind (arith, nat_tests, lf.behind) in
      let whole : rows_to bytes end ≡ numbered 1 (split LF (u.left ++ LF ∷ back)) =
      ap rows to_end ∙ ap (λ bs. numbered 1 (split LF bs)) (u.dropped back) in
      let before : rows_to bytes start ≡ numbered 1 (split LF (u.left ++ LF ∷ [])) =
      ap rows to_start ∙ ap (λ bs. numbered 1 (split LF bs)) (u.dropped []) in
      let part : part_rows bytes (part_between bytes start end)
      ≡ numbered (1 + 1 + line_ends u.left) (split LF back) =
      ap (λ t. numbered (1 + line_ends (take start bytes))
      (split LF (if t then without_mark back else back))) not_first
      ∙ ap (λ n. numbered n (split LF back)) line in
      whole ∙ numbered-behind_lf 1 u.left back ∙ (λ j. sym before j ++ sym part j)

  part-next : (start end : ℕ) → IsCutPlace bytes start → start ≤ end → end ≤ length bytes
      → rows_to bytes end ≡ rows_to bytes start ++ part_rows bytes (part_between bytes start end)
  part-next start end place le inside = ⊎_elim
      (λ (first : start ≡ 0).
      let e : 0 ≡ start = sym first in
      let to_end : end ≡ end - 0 = omega arith in
      subst (λ n. rows_to bytes end
      ≡ rows_to bytes n ++ part_rows bytes (part_between bytes n end)) e
      (ap (λ n. rows (take n bytes)) to_end))
      (λ (later : FollowsLf bytes start ⊎ (start ≡ length bytes)). ⊎_elim
      (λ (lf : FollowsLf bytes start). part-behind_lf start end lf le inside)
      (λ (last : start ≡ length bytes).
      let same : end ≡ start = omega arith in
      ap (λ n. rows (take n bytes)) same ∙ sym (append-nil (rows_to bytes start))
      ∙ ap (λ more. rows_to bytes start ++ more) (sym (part-none bytes start end (omega arith))))
      later)
      place

  module _ (pieces : ℕ) where
    -- the cut of a number
    abbrev pub at : ℕ → ℕ
    at k = cut_of bytes pieces k

    -- the part of a number
    abbrev pub part_at : ℕ → RowPart
    part_at k = part_between bytes (at k) (at (k + 1))

    -- the parts up to a number that are not empty
    abbrev pub full_to : ℕ → List RowPart
    full_to k = filter is_full (map part_at (range_with_len 0 k))

    -- up to the next number they are one more where its part is not empty, and else the same
    pub full_to-next : (k : ℕ)
        → full_to (k + 1) ≡ full_to k ++ cond (is_full (part_at k)) (part_at k ∷ []) []
    full_to-next k = filter_of_map_range_with_len_more is_full part_at 0 k k (zero-add k)

  module _ (pieces : ℕ) (some : 0 < pieces) where
    cut-place : (k : ℕ) → k < pieces → IsCutPlace bytes (at pieces k)
    cut-place zero lt = inl refl
    cut-place (suc k) lt =
        inr ((AreCuts-cut_of bytes pieces some).between (suc k) (omega arith) lt).follows

    part-rows-if : (k : ℕ) (t : Bool) → is_full (part_at pieces k) ≡ t
        → flat_map (part_rows bytes) (cond t (part_at pieces k ∷ []) [])
        ≡ part_rows bytes (part_at pieces k)
    part-rows-if k true e = append-nil (part_rows bytes (part_at pieces k))
    part-rows-if k false e =
        sym (part-none bytes (at pieces k) (at pieces (k + 1)) (ltb-false _ _ e))

    rows-to : (k : ℕ) → k ≤ pieces
        → flat_map (part_rows bytes) (full_to pieces k) ≡ rows_to bytes (at pieces k)
    rows-to zero le = refl
    rows-to (suc k) le =
        let next : suc k ≡ k + 1 = omega arith in
        let lt : k < pieces = omega arith in
        ap (λ n. flat_map (part_rows bytes) (full_to pieces n)) next
        ∙ ap (flat_map (part_rows bytes)) (full_to-next pieces k)
        ∙ flat_map-append (part_rows bytes) (full_to pieces k)
        (cond (is_full (part_at pieces k)) (part_at pieces k ∷ []) [])
        ∙ (λ j. rows-to k (omega arith) j ++ part-rows-if k (is_full (part_at pieces k)) refl j)
        ∙ sym (part-next (at pieces k) (at pieces (k + 1)) (cut-place k lt)
        (cut_of-rises bytes pieces some k lt)
        (cut_of-inside bytes pieces some (k + 1) (omega arith)))
        ∙ ap (λ n. rows_to bytes (at pieces n)) (sym next)

    -- the rows of all parts
    pub rows-of_parts : flat_map (part_rows bytes) (parts_of bytes pieces (cut_of bytes pieces))
        ≡ rows bytes
    rows-of_parts = rows-to pieces (omega arith)
        ∙ ap (λ n. rows (take n bytes)) (cut_of-last bytes pieces some)
        ∙ ap rows (take_all (length bytes) bytes (omega arith))

    -- the line of a place is at most one more than the file has bytes
    pub line-inside : (place : ℕ) → 1 + line_ends (take place bytes) ≤ length bytes + 1
    line-inside place = omega (
      arith,
      count_by-le-length (λ byte. byte == LF) (take place bytes),
      length-take place bytes,
    )

    push-if : (k : ℕ) (t : Bool) → is_full (part_at pieces k) ≡ t → k < pieces
        → All (IsPartOf bytes) (full_to pieces k)
        → All (IsPartOf bytes) (full_to pieces k ++ cond t (part_at pieces k ∷ []) [])
    push-if k true e lt all =
        All-push (IsPartOf bytes) (full_to pieces k) (part_at pieces k) all (record {
          some = ltb-true _ _ e;
          inside = cut_of-inside bytes pieces some (k + 1) (omega arith);
          line = line-inside (at pieces k);
        })
    push-if k false e lt all =
        subst (All (IsPartOf bytes)) (sym (append-nil (full_to pieces k))) all

    each-to : (k : ℕ) → k ≤ pieces → All (IsPartOf bytes) (full_to pieces k)
    each-to zero le = All-nil (IsPartOf bytes)
    each-to (suc k) le =
        let next : k + 1 ≡ suc k = omega arith in
        subst (λ n. All (IsPartOf bytes) (full_to pieces n)) next
        (subst (All (IsPartOf bytes)) (sym (full_to-next pieces k))
        (push-if k (is_full (part_at pieces k)) refl (omega arith) (each-to k (omega arith))))

    -- each part lies in the file
    pub parts-inside : All (IsPartOf bytes) (parts_of bytes pieces (cut_of bytes pieces))
    parts-inside = each-to pieces (omega arith)

    -- the parts are those of the cuts
    pub AreParts-cut_of : AreParts bytes pieces (parts_of bytes pieces (cut_of bytes pieces))
    AreParts-cut_of = record {
      cuts = cut_of bytes pieces;
      are_cuts = AreCuts-cut_of bytes pieces some;
      parts_are = refl;
    }

    -- the line of the next part
    pub line-next : (k : ℕ) → k < pieces
        → 1 + line_ends (take (at pieces k) bytes)
        + line_ends (slice_range bytes (at pieces k) (at pieces (k + 1)))
        ≡ 1 + line_ends (take (at pieces (k + 1)) bytes)
    line-next k lt =
        let both : line_ends (take (at pieces (k + 1)) bytes)
        ≡ line_ends (take (at pieces k) bytes)
        + line_ends (slice_range bytes (at pieces k) (at pieces (k + 1))) =
        ap line_ends
        (take-between bytes (at pieces k) (at pieces (k + 1)) (cut_of-rises bytes pieces some k lt))
        ∙ sum_by-append (λ byte. cond (byte == LF) 1 0) (take (at pieces k) bytes)
        (slice_range bytes (at pieces k) (at pieces (k + 1))) in
        omega arith
