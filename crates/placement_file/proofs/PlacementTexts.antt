-- The text of a placement, row by row: what was written so far is its header and the rows of the
-- first candidates.
use Rattle.std.proofs.Common.{◌≡◌, ℕ, ◌+◌, ◌<◌, ◌≤◌, List, [], ◌∷◌, ◌++◌, length, take, get_or, sym, ap, ◌∙◌, arith, Option, Some, None}
use Rattle.std.specs.Prelude.{codes, decimal, slice_get, slice_index}
use Rattle.std.specs.List.{flat_map, zip}
use Rattle.std.proofs.lemmas.List.{flat_map_more, take_more, take_all}
use Rattle.std.proofs.lemmas.Option.{slice_get-get_or}
use Rattle.std.proofs.lemmas.Slice.Zip.{length-zip, get_or-zip}
use Rattle.record_files.specs.Texts.{row_text}
use Rattle.placement_file.specs.Texts.{candidate_row, held_text, placement_text}

-- what a candidate without a programme holds is printed as a dash
pub none_held : (programmes : List ℕ) (held : Option ℕ) → held ≡ None
    → codes "-" ≡ held_text programmes held
none_held programmes held none = ap (held_text programmes) (sym none)

-- and a programme that is held is printed as its code
pub code_is_held : (programmes : List ℕ) (held : Option ℕ) (p code : ℕ) → held ≡ Some p
    → p < length programmes → slice_get programmes p ≡ Some code
    → decimal code ≡ held_text programmes held
code_is_held programmes held p code some within read =
    let first : Some code ≡ Some (slice_index programmes p) = sym read ∙ slice_get-get_or
    programmes p 0 within in
    let same : code ≡ slice_index programmes p = cc in
    ap decimal same ∙ ap (held_text programmes) (sym some)

-- the header of a placement
abbrev pub header : List ℕ
header = row_text (codes "candidate" ∷ codes "programme" ∷ [])

-- the header, and the rows of the first candidates
abbrev pub text_to : List ℕ → List ℕ → List (Option ℕ) → ℕ → List ℕ
text_to programmes candidates held n = header ++ flat_map (candidate_row programmes)
    (take n (zip candidates held))

-- one more row
pub text-more : (programmes candidates : List ℕ) (held : List (Option ℕ)) (n number : ℕ)
    (holds : Option ℕ) (old new : List ℕ)
    → length held ≡ length candidates → n < length held → slice_get candidates n ≡ Some number
    → holds ≡ get_or held n None
    → old ≡ text_to programmes candidates held n
    → new ≡ old ++ candidate_row programmes (number, holds)
    → new ≡ text_to programmes candidates held (n + 1)
text-more programmes candidates held n number holds old new sizes within numbers holding before
    after =
    let pairs = zip candidates held in
    let row = candidate_row programmes in
    let few : n < length candidates = omega arith in
    let many : n < length pairs = omega (arith, length-zip candidates held) in
    let first : Some number ≡ Some (get_or candidates n 0) = sym numbers ∙ slice_get-get_or
    candidates n 0 few in
    let same : number ≡ get_or candidates n 0 = cc in
    let pair : (number, holds) ≡ get_or pairs n (0, None) =
    ap (λ v. (v, holds)) same ∙ ap (λ v. (get_or candidates n 0, v)) holding ∙ sym
    (get_or-zip candidates held n (0, None) few within) in
    after ∙ ap (λ v. v ++ row (number, holds)) before ∙ ap
    (λ v. text_to programmes candidates held n ++ row v) pair
    ∙ flat_map_more row header (take n pairs) (get_or pairs n (0, None))
    ∙ ap (λ v. header ++ flat_map row v) (sym (take_more pairs n (0, None) many))

-- all rows
pub text-all : (programmes candidates : List ℕ) (held : List (Option ℕ)) (n : ℕ)
    → length held ≡ length candidates → length held ≤ n
    → text_to programmes candidates held n ≡ placement_text programmes candidates held
unfolding placement_text
text-all programmes candidates held n sizes all =
    let many : length (zip candidates held) ≤ n = omega (arith, length-zip candidates held) in
    ap (λ v. header ++ flat_map (candidate_row programmes) v) (take_all n (zip candidates held)
    many)
