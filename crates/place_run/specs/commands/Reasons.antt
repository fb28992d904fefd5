-- The text of `reasons`, and what is promised of it.
use Rattle.std.specs.Prelude.{ℕ, List, [], ◌∷◌, ◌++◌, codes, decimal, length, slice_index, Option}
use Rattle.std.specs.List.{flat_map, range_with_len}
use Rattle.market.specs.Mechanism.{mechanism_placement}
use Rattle.market.specs.Problems.{Problem, list_of}
use Rattle.programme_table.specs.Table.{codes_of}
use Rattle.candidate_table.specs.Table.{numbers_of}
use Rattle.record_files.specs.Texts.{row_text}
use Rattle.reports.specs.FullEntries.{FullMeansFilled}
use Rattle.reports.specs.Reasons.{entry_at, reason_of}
use Rattle.reports.specs.declared.reasons.Reason.{Reason}
use Rattle.reports.specs.declared.reasons.Reason.TheVariants.{Placed, Below, NoRank, Bar, Full}
use Rattle.run_frame.specs.Files.{Reads}
use Rattle.place_run.specs.Tables.{Tables, codes_in, numbers_in, problem_of, tables_in}
use Rattle.place_run.specs.commands.Base.{rank_text}
use Rattle.place_run.specs.commands.Place.{IsOfWorstStable}

-- the word of a reason
abbrev pub reason_word : Reason → List ℕ
reason_word Placed = codes "PLACED"
reason_word Below = codes "BELOW"
reason_word NoRank = codes "NORANK"
reason_word (Bar bar) = codes "BAR"
reason_word (Full base) = codes "FULL"

-- the rank that stands beside a reason: the bar that is missed, or the base rank of a full programme
abbrev pub reason_base : Reason → List ℕ
reason_base Placed = codes "-"
reason_base Below = codes "-"
reason_base NoRank = codes "-"
reason_base (Bar bar) = decimal bar
reason_base (Full base) = rank_text base

-- the row of an entry: the candidate's number, the programme's code, and the reason
abbrev pub reason_row : ℕ → ℕ → Reason → List ℕ
reason_row number code reason =
    row_text (decimal number ∷ decimal code ∷ reason_word reason ∷ reason_base reason ∷ [])

-- the row of the entry at a place of a candidate's list
unfoldable pub entry_row : List ℕ → List ℕ → Problem → List (Option ℕ) → ℕ → ℕ → List ℕ
entry_row programmes candidates m held i place =
    reason_row (slice_index candidates i) (slice_index programmes (entry_at m i place))
    (reason_of m held i place)

-- the rows of a candidate's list
unfoldable pub candidate_rows : List ℕ → List ℕ → Problem → List (Option ℕ) → ℕ → List ℕ
candidate_rows programmes candidates m held i =
    flat_map (entry_row programmes candidates m held i) (range_with_len 0 (length (list_of m i)))

-- the header of the reasons
abbrev pub reasons_header : List ℕ
reasons_header =
    row_text (codes "candidate" ∷ codes "programme" ∷ codes "reason" ∷ codes "base" ∷ [])

-- the text of the reasons in a placement beside the programmes' codes and the candidates' numbers:
-- a header, and a row for each list entry, a candidate after the other
unfoldable pub reasons_text : List ℕ → List ℕ → Problem → List (Option ℕ) → List ℕ
reasons_text programmes candidates m held =
    reasons_header
    ++ flat_map (candidate_rows programmes candidates m held)
    (range_with_len 0 (length m.lists))

-- the reasons in the mechanism's placement in the market of three tables
unfoldable pub reasons_of : Tables → List ℕ
reasons_of tables =
    reasons_text (codes_of tables.programmes.rows) (numbers_of tables.candidates.numbers)
    (problem_of tables) (mechanism_placement (problem_of tables))

-- A text is that of the reasons in the worst stable placement, as `place` prints it of the same
-- files. The programme of an entry that is full has as many holders as its quota, each with a
-- better rank than the candidate.
pub record IsReasonsText (reads : Reads) (text : List ℕ) : Type 0 where
  pub explained : IsOfWorstStable (λ three. reasons_text (codes_in three) (numbers_in three)
      (problem_of (tables_in three)) (mechanism_placement (problem_of (tables_in three))))
      reads text
  pub filled : FullMeansFilled (problem_of (tables_in explained.three))
      (mechanism_placement (problem_of (tables_in explained.three)))
