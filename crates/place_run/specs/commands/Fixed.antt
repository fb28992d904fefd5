-- The text of `fixed`, and what is promised of it.
use Rattle.std.specs.Prelude.{ℕ, List, [], ◌∷◌, ◌++◌, codes, decimal, length, slice_index}
use Rattle.std.specs.List.{flat_map, range_with_len}
use Rattle.fixed_seats.specs.Reports.{IsOfEveryStable, Seats, seats_in}
use Rattle.market.specs.Mechanism.{mechanism_placement}
use Rattle.candidate_table.specs.Table.{numbers_of}
use Rattle.programme_table.specs.Table.{codes_of}
use Rattle.record_files.specs.Texts.{row_text}
use Rattle.run_frame.specs.Files.{Reads}
use Rattle.place_run.specs.Tables.{Tables, codes_in, numbers_in, problem_of, tables_in}
use Rattle.place_run.specs.commands.Place.{IsOfWorstStable}

-- the header of what all stable placements share
abbrev pub fixed_header : List ℕ
fixed_header = row_text (codes "row" ∷ codes "number" ∷ codes "held" ∷ [])

-- the row of a candidate without a programme: the number, and no seat
abbrev pub unplaced_row : List ℕ → ℕ → List ℕ
unplaced_row candidates i =
    row_text (codes "CANDIDATE" ∷ decimal (slice_index candidates i) ∷ decimal 0 ∷ [])

-- the row of a programme: its code, and how many hold it
abbrev pub filled_row : List ℕ → List ℕ → ℕ → List ℕ
filled_row programmes held p =
    row_text (codes "PROGRAMME" ∷ decimal (slice_index programmes p)
    ∷ decimal (slice_index held p) ∷ [])

-- the text of candidates without a programme, and of how many hold each programme, beside the
-- programmes' codes and the candidates' numbers: a header, a row for each of these candidates, and
-- a row for each programme
unfoldable pub fixed_text : List ℕ → List ℕ → Seats → List ℕ
fixed_text programmes candidates seats =
    (fixed_header ++ flat_map (unplaced_row candidates) seats.unplaced)
    ++ flat_map (filled_row programmes seats.held) (range_with_len 0 (length programmes))

-- what the mechanism's placement in the market of three tables leaves and fills
unfoldable pub fixed_of : Tables → List ℕ
fixed_of tables =
    fixed_text (codes_of tables.programmes.rows) (numbers_of tables.candidates.numbers)
    (seats_in (problem_of tables) (mechanism_placement (problem_of tables)))

-- A text tells what the worst stable placement, as `place` prints it of the same files, leaves and
-- fills; and every stable placement of these files leaves and fills the same.
pub record IsFixedText (reads : Reads) (text : List ℕ) : Type 0 where
  pub told : IsOfWorstStable (λ three. fixed_text (codes_in three) (numbers_in three)
      (seats_in (problem_of (tables_in three)) (mechanism_placement (problem_of (tables_in
      three))))) reads text
  pub every : IsOfEveryStable (problem_of (tables_in told.three))
      (seats_in (problem_of (tables_in told.three))
      (mechanism_placement (problem_of (tables_in told.three))))
