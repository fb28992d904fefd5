use Rattle.quota_sweep.proofs.Examples.{chain_swept, chain_valid}
use Rattle.quota_sweep.proofs.example.chain_rows.Goals as goal

pub returns : goal.returns
returns c = record { valid = chain_valid; rows = chain_swept }
