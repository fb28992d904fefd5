-- The mechanism's placement in a market, and what is reported of it.
use Rattle.std.specs.Prelude.{◌≡◌, ℕ, List, Option, length}
use Rattle.market.specs.Comparisons.{IsWorstStable}
use Rattle.market.specs.Mechanism.{mechanism_cuts, mechanism_placement, mechanism_rounds}
use Rattle.market.specs.Problems.{IsValid, Problem as Market}
use Rattle.market.specs.Reruns.{placement_turns}
use Rattle.market.specs.declared.placement.Outcome.{Outcome}
use Rattle.programme_table.specs.Table.{codes_of}
use Rattle.candidate_table.specs.Table.{numbers_of}
use Rattle.quota_sweep.specs.Sweeps.{AreWorstStable, HurtsNobody, sweep_rows}
use Rattle.quota_sweep.specs.declared.row.SweepRow.{SweepRow}
use Rattle.reports.specs.BaseTables.{BaseTable, HoldsProgrammes, IsBaseTable}
use Rattle.place_run.specs.Problems.{IsProblemOf}
use Rattle.place_run.specs.Tables.{Tables}
use Rattle.place_run.specs.declared.placing.Placed.{Placed}
use Rattle.place_run.specs.declared.problem.Problem.{Problem}

-- each programme of the market has a code, and each candidate a number
pub record IsNamed (problem : Problem) : Type 0 where
  pub programmes : length (codes_of problem.programmes.rows) ≡ length problem.market.programmes
  pub candidates : length (numbers_of problem.numbers) ≡ length problem.market.lists

-- what the mechanism gives in a market, with the turns of rounds that run again only what changed
pub record IsOutcomeOf (m : Market) (outcome : Outcome) : Type 0 where
  pub placement : outcome.placement ≡ mechanism_placement m
  pub rounds : outcome.rounds ≡ mechanism_rounds m
  pub cuts : outcome.cuts ≡ mechanism_cuts m
  pub turns : outcome.turns ≡ placement_turns m

-- the mechanism's placement in the market of three tables, which is the worst of the stable ones
pub record IsPlacedOf (tables : Tables) (placed : Placed) : Type 0 where
  pub problem : IsProblemOf tables placed.problem
  pub placement : placed.placement ≡ mechanism_placement placed.problem.market
  pub worst : IsWorstStable placed.problem.market placed.placement

-- the rows of a programme's quotas in a market: with each quota what they tell of is the worst of
-- the stable placements, and a larger quota takes nothing from anybody
pub record IsSweepOf (m : Market) (p low high : ℕ) (rows : List SweepRow) : Type 0 where
  pub all : rows ≡ sweep_rows m p low high
  pub worst : AreWorstStable m p low high
  pub hurts_nobody : HurtsNobody m p low high

-- a placement gives each candidate a programme of the market or none, and all have names
pub record IsNamedPlacement (problem : Problem) (held : List (Option ℕ)) : Type 0 where
  pub valid : IsValid problem.market
  pub named : IsNamed problem
  pub candidates : length held ≡ length problem.market.lists
  pub programmes : HoldsProgrammes problem.market held

-- the base ranks of a placement whose candidates and programmes have names
pub record AreReasonRows (placed : Placed) (bases : BaseTable) : Type 0 where
  pub named : IsNamedPlacement placed.problem placed.placement
  pub bases_are : IsBaseTable placed.problem.market placed.placement bases
