use Rattle.case_maker.specs.MadeMarkets.{made_market}
use Rattle.case_maker.proofs.Validity.{made_market-sizes, made_market-valid}
use Rattle.case_maker.proofs.make.make_market.Goals as goal

pub returns-clause-made : goal.returns-clause-made
unfolding made_market
returns-clause-made c = c.make.ensures

pub returns-clause-valid : goal.returns-clause-valid
returns-clause-valid c =
    made_market-valid c.args.seed c.args.candidates c.args.programmes c.args.types
    (record {
      candidates = c.requires.candidates;
      programmes = c.requires.programmes;
      types = c.requires.types;
      some_type = c.requires.some_type;
    })

pub returns-clause-sizes : goal.returns-clause-sizes
returns-clause-sizes c =
    made_market-sizes c.args.seed c.args.candidates c.args.programmes c.args.types
