-- The text of a placement.
use Rattle.std.specs.Prelude.{ℕ, List, [], ◌∷◌, ◌++◌, codes, decimal, slice_index, Option, Some, None}
use Rattle.std.specs.List.{flat_map, zip}
use Rattle.record_files.specs.Texts.{row_text}

-- what a candidate holds, as it is printed: the programme's code, or a dash for none
abbrev pub held_text : List ℕ → Option ℕ → List ℕ
held_text programmes None = codes "-"
held_text programmes (Some p) = decimal (slice_index programmes p)

-- the row of a candidate: the number, and what the candidate holds
abbrev pub candidate_row : List ℕ → ℕ × Option ℕ → List ℕ
candidate_row programmes (number, held) = row_text (decimal number ∷ held_text programmes held ∷ [])

-- the text of a placement beside the programmes' codes and the candidates' numbers: a header, and a
-- row for each candidate
unfoldable pub placement_text : List ℕ → List ℕ → List (Option ℕ) → List ℕ
placement_text programmes candidates held =
    row_text (codes "candidate" ∷ codes "programme" ∷ [])
    ++ flat_map (candidate_row programmes) (zip candidates held)
