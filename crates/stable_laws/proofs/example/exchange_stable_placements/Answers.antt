use Rattle.market.specs.Examples.{exchange}
use Rattle.market.proofs.Checks.{exchange_valid}
use Rattle.stable_laws.proofs.Exchange.{exchanged-stable}
use Rattle.stable_laws.proofs.Stable.{stable}
use Rattle.stable_laws.proofs.example.exchange_stable_placements.Goals as goal

pub returns : goal.returns
returns c =
    record {
      valid = exchange_valid;
      mechanism = stable exchange exchange_valid;
      exchanged = exchanged-stable;
    }
