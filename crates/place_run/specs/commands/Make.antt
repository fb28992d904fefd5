-- The text of `make`, and what is promised of it.
use Rattle.std.specs.Prelude.{◌≡◌, ℕ, List}
use Rattle.case_maker.specs.MadeMarkets.{HasSizes, made_market}
use Rattle.market.specs.Comparisons.{IsWorstStable}
use Rattle.market.specs.Mechanism.{mechanism_cuts, mechanism_placement, mechanism_rounds}
use Rattle.market.specs.Problems.{IsValid, Problem}
use Rattle.market.specs.Reruns.{placement_turns}
use Rattle.market.specs.declared.placement.Outcome.{Outcome}
use Rattle.market_summary.specs.Summaries.{summary}

-- what the mechanism gives in a market: its placement, rounds and cuts, with the turns of rounds
-- that run again only what the last cuts changed
abbrev pub outcome_of : Problem → Outcome
outcome_of m =
    record {
      placement = mechanism_placement m;
      rounds = mechanism_rounds m;
      cuts = mechanism_cuts m;
      turns = placement_turns m;
    }

-- the summary of the market of a seed, with so many candidates, programmes and types
unfoldable pub summary_of : ℕ → ℕ → ℕ → ℕ → List ℕ
summary_of seed candidates programmes types =
    let m = made_market seed candidates programmes types in summary m (outcome_of m)

-- A text is the summary of the market of a seed and of the mechanism's placement in it. The market
-- has the sizes that were asked for. The placement is stable there, and in every stable placement
-- there each candidate holds the same programme or one listed higher.
pub record IsSummaryOf (seed candidates programmes types : ℕ) (text : List ℕ) : Type 0 where
  pub market : IsValid (made_market seed candidates programmes types)
  pub sizes : HasSizes (made_market seed candidates programmes types) candidates programmes types
  pub worst : IsWorstStable (made_market seed candidates programmes types)
      (mechanism_placement (made_market seed candidates programmes types))
  pub printed : text ≡ summary (made_market seed candidates programmes types)
      (outcome_of (made_market seed candidates programmes types))
