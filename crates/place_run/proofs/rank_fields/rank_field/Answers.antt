use Rattle.std.proofs.Common.{arith}
use Rattle.place_run.proofs.RowTexts.{number-short}
use Rattle.place_run.proofs.rank_fields.rank_field.Goals as goal

pub returns-in-Some-clause-len : goal.returns-in-Some-clause-len
returns-in-Some-clause-len c = number-short c.from.result (omega (arith, c.from.type_inv))
