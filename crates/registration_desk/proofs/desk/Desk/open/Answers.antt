use Rattle.std.proofs.Common.{◌∙◌}
use Rattle.registration_desk.specs.Desks.{knows}
use Rattle.registration_desk.proofs.Clerks.{sum_ones}
use Rattle.registration_desk.proofs.desk.Desk.open.Goals as goal

pub returns-clause-shares : goal.returns-clause-shares
returns-clause-shares c =
    sum_ones (λ clerk. (knows clerk).share) c.split_all.new.crew.items
    (λ k clerk e. (c.split_all.ensures.new k clerk e).share)
    ∙ c.split_all.ensures.count
