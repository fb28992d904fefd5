use Rattle.market.proofs.Between.{flat_read}
use Rattle.market.proofs.flat_lists.FlatLists.list.Goals as goal

pub returns : goal.returns
returns c =
    flat_read _ _ _ _ _ c.args.index _ _ c.self.invariant c.self.view_is c.requires c.index.ensures
    c.index-2.ensures c.deref.ensures.value
