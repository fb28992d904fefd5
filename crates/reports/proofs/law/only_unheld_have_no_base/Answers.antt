use Rattle.reports.proofs.Unheld.{none_where_unheld}
use Rattle.reports.proofs.law.only_unheld_have_no_base.Goals as goal

pub returns : goal.returns
returns c =
    none_where_unheld c.args.market.now c.args.placement.now c.args.ranks.now c.requires.table
    c.requires.acceptable
