use Rattle.reports.proofs.FullEntries.{full_means_filled}
use Rattle.reports.proofs.law.full_entries_are_filled.Goals as goal

pub returns : goal.returns
returns c =
    full_means_filled c.args.market.now c.type_count.ensures.valid c.args.placement.now c.requires
