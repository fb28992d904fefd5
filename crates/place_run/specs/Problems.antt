-- A market with the codes of its programmes and the numbers of its candidates.
use Rattle.std.specs.Prelude.{◌≡◌, length}
use Rattle.market.specs.Problems.{IsValid}
use Rattle.place_run.specs.Tables.{Tables, problem_of}
use Rattle.place_run.specs.declared.problem.Problem.{Problem}

-- it is that of three tables
pub record IsProblemOf (tables : Tables) (problem : Problem) : Type 0 where
  pub market : problem.market ≡ problem_of tables
  pub valid : IsValid problem.market
  pub programmes : problem.programmes ≡ tables.programmes
  pub numbers : problem.numbers ≡ tables.candidates.numbers
  pub paired : length tables.candidates.lists ≡ length tables.candidates.numbers
