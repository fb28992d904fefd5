use Rattle.std.proofs.Common.{sym, subst}
use Rattle.market.specs.Mechanism.{IsCuts}
use Rattle.market.proofs.Plain.{whole_fit}
use Rattle.market.proofs.tests.admits_up_to_the_bar_of_each_type.Goals as goal

pub turn_lists-requires-clause-cuts : goal.turn_lists-requires-clause-cuts
turn_lists-requires-clause-cuts g c =
    subst (IsCuts c.in_ok-market.market) (sym c.in_ok-cuts.ensures.cuts)
    (whole_fit c.in_ok-market.market)

pub turn_lists-requires-2-clause-cuts : goal.turn_lists-requires-2-clause-cuts
turn_lists-requires-2-clause-cuts g c =
    subst (IsCuts c.in_ok-market.market) (sym c.in_ok-cuts.ensures.cuts)
    (whole_fit c.in_ok-market.market)
