use Rattle.place_run.proofs.Summaries.{is-summary, no-summary}
use Rattle.place_run.proofs.commands.make.make.Goals as goal

pub returns : goal.returns
returns g c =
    is-summary c.args.seed c.args.candidates c.args.programmes c.args.types
    c.in_ok-market.market c.in_ok-outcome.outcome c.in_ok-text.text.items c.done.result
    c.in_ok-market.ensures.made c.in_ok-market.ensures.valid c.in_ok-market.ensures.sizes
    c.worst_stable.ensures c.in_ok-outcome.ensures c.in_ok-text.ensures c.done.ensures

pub returns-in_err-market : goal.returns-in_err-market
returns-in_err-market g c =
    no-summary c.args.seed c.args.candidates c.args.programmes c.args.types _
    c.from_residual.ensures.1
