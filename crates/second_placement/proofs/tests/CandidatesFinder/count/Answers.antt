use Rattle.std.proofs.Common.{refl}
use Rattle.std.proofs.lemmas.Cmp.{nat_eq_equiv}
use Rattle.std.proofs.lemmas.Map.Made.{IsDistinct-from_count}
use Rattle.second_placement.specs.declared.tests.TheConstants.{NUMBERS}
use Rattle.second_placement.proofs.tests.CandidatesFinder.count.Goals as goal

pub returns-clause-distinct : goal.returns-clause-distinct
returns-clause-distinct c = IsDistinct-from_count nat_eq_equiv NUMBERS refl
