-- The text of `place`, and what is promised of it.
use Rattle.std.specs.Prelude.{◌≡◌, ℕ, List, Some}
use Rattle.place_base.specs.declared.fault.FileKind.TheVariants as file
use Rattle.market.specs.Comparisons.{IsWorstStable}
use Rattle.market.specs.Mechanism.{mechanism_placement}
use Rattle.market.specs.Problems.{IsValid}
use Rattle.programme_table.specs.Table.{codes_of}
use Rattle.candidate_table.specs.Table.{numbers_of}
use Rattle.run_frame.specs.Files.{Reads}
use Rattle.placement_file.specs.Texts.{placement_text}
use Rattle.place_run.specs.Tables.{HasNoFault, Tables, ThreeFiles, codes_in, numbers_in, problem_of, tables_in}

-- the text of the mechanism's placement in the market of three tables
unfoldable pub printed_placement : Tables → List ℕ
printed_placement tables =
    placement_text (codes_of tables.programmes.rows) (numbers_of tables.candidates.numbers)
    (mechanism_placement (problem_of tables))

-- these three files were read
pub record AreThree (reads : Reads) (three : ThreeFiles) : Type 0 where
  pub programmes : reads file.Programmes ≡ Some three.programmes
  pub candidates : reads file.Candidates ≡ Some three.candidates
  pub ranks : reads file.Ranks ≡ Some three.ranks

-- A text is printed so of three files without a fault. The mechanism's placement in their market is
-- stable there, and in every stable placement there each candidate holds the same programme or one
-- listed higher.
pub record IsOfWorstStable (print : ThreeFiles → List ℕ) (reads : Reads) (text : List ℕ) : Type 0
  where
    pub three : ThreeFiles
    pub read : AreThree reads three
    pub no_fault : HasNoFault three
    pub market : IsValid (problem_of (tables_in three))
    pub worst : IsWorstStable (problem_of (tables_in three))
        (mechanism_placement (problem_of (tables_in three)))
    pub printed : text ≡ print three

-- A text is that of three files without a fault: the placement of the mechanism in their market. It
-- is stable there, and in every stable placement there each candidate holds the same programme or
-- one listed higher.
abbrev pub IsWorstStableText : Reads → List ℕ → Type 0
IsWorstStableText reads text =
    IsOfWorstStable (λ three. placement_text (codes_in three) (numbers_in three)
    (mechanism_placement (problem_of (tables_in three)))) reads text
