use Rattle.std.proofs.Common.{rules}
use Rattle.std.specs.List.{IsDistinct}
use Rattle.rank_lists.proofs.tests.OneTypeTypeFinder.type_count.Goals as goal

pub returns-clause-distinct : goal.returns-clause-distinct
unfolding IsDistinct
returns-clause-distinct c = search rules
