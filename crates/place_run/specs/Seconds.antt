-- What a second placement in the market of three tables came to.
use Rattle.std.specs.Prelude.{◌≡◌, ℕ, Bool, List, Option}
use Rattle.market.specs.Problems.{IsValid}
use Rattle.second_placement.specs.SeatsLeft.{second_problem}
use Rattle.place_run.specs.Answers.{Answer}
use Rattle.place_run.specs.Audits.{IsAuditOf}
use Rattle.place_run.specs.Tables.{problem_of}
use Rattle.place_run.specs.commands.Audit.{audit_of}
use Rattle.place_run.specs.commands.Second.{Registered, second_of}
use Rattle.place_run.specs.declared.problem.Problem.{Problem}

-- a market with its names has the seats that registered candidates leave of another
pub record HasSeatsLeft (first : Problem) (held : List (Option ℕ)) (registered : List Bool)
    (second : Problem) : Type 0 where
  pub market : second.market ≡ second_problem first.market held registered
  pub programmes : second.programmes ≡ first.programmes
  pub numbers : second.numbers ≡ first.numbers

-- an answer is that of the second placement, whose first one was audited
pub record IsSecondOf (given : Registered) (answer : Answer) : Type 0 where
  pub market : IsValid (problem_of given.audited.tables)
  pub audit : IsAuditOf given.audited (audit_of given.audited)
  pub said : answer ≡ second_of given
