-- The text of `base`, and what is promised of it.
use Rattle.std.specs.Prelude.{ℕ, List, [], ◌∷◌, ◌++◌, codes, decimal, length, slice_index, Option, Some, None}
use Rattle.std.specs.List.{flat_map, range_with_len}
use Rattle.market.specs.BaseRanks.{base_rank}
use Rattle.market.specs.Counting.{count_of}
use Rattle.market.specs.Mechanism.{mechanism_placement}
use Rattle.market.specs.Problems.{Problem, quota_of}
use Rattle.programme_table.specs.Table.{codes_of}
use Rattle.record_files.specs.Texts.{row_text}
use Rattle.run_frame.specs.Files.{Reads}
use Rattle.place_run.specs.Tables.{Tables, codes_in, problem_of, tables_in}
use Rattle.place_run.specs.commands.Place.{IsOfWorstStable}

-- a base rank as it is printed, or a dash for none
abbrev pub rank_text : Option ℕ → List ℕ
rank_text None = codes "-"
rank_text (Some rank) = decimal rank

-- the row of a programme: its code, its quota, how many hold it, and its base rank
abbrev pub programme_row : List ℕ → Problem → List (Option ℕ) → ℕ → List ℕ
programme_row programmes m held p =
    row_text (decimal (slice_index programmes p) ∷ decimal (quota_of m p)
    ∷ decimal (count_of p held) ∷ rank_text (base_rank m held p) ∷ [])

-- the header of the base ranks
abbrev pub base_header : List ℕ
base_header = row_text (codes "programme" ∷ codes "quota" ∷ codes "held" ∷ codes "base" ∷ [])

-- the text of the base ranks of a placement beside the programmes' codes: a header, and a row for
-- each programme
unfoldable pub base_text : List ℕ → Problem → List (Option ℕ) → List ℕ
base_text programmes m held =
    base_header
    ++ flat_map (programme_row programmes m held) (range_with_len 0 (length m.programmes))

-- the base ranks of the mechanism's placement in the market of three tables
unfoldable pub bases_of : Tables → List ℕ
bases_of tables =
    base_text (codes_of tables.programmes.rows) (problem_of tables)
    (mechanism_placement (problem_of tables))

-- A text is that of the base ranks of the worst stable placement, as `place` prints it of the same
-- files.
abbrev pub IsBaseText : Reads → List ℕ → Type 0
IsBaseText reads text =
    IsOfWorstStable (λ three. base_text (codes_in three) (problem_of (tables_in three))
    (mechanism_placement (problem_of (tables_in three)))) reads text
