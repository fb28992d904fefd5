use Rattle.std.proofs.Common.{subst}
use Rattle.market.specs.Dictatorships.{IsPrefixOf, choices}
use Rattle.interleaving_core.specs.Core.{Machine}
use Rattle.interleaving_core.specs.Core.{committed_choices}
use Rattle.interleaving_core.proofs.Prefix.{committed_prefix}
use Rattle.interleaving_core.proofs.state.CoreState.committed.Goals as goal

pub returns-clause-prefix : goal.returns-clause-prefix
returns-clause-prefix c =
    subst (λ (m : Machine). IsPrefixOf (committed_choices m.core) (choices m.dict)) c.self.view_is
    (committed_prefix _ _ c.self.invariant.sound)
