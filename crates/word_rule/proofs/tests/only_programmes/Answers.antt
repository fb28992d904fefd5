use Rattle.std.proofs.Common.{◌≡◌, replicate, arith}
use Rattle.std.proofs.lemmas.Grind.{common_steps}
use Rattle.word_rule.proofs.OnlyProgrammes.{only_valid}
use Rattle.word_rule.proofs.tests.only_programmes.Goals as goal

pub from_parts-requires : goal.from_parts-requires
from_parts-requires c =
    let quota : c.in_ok-quota.quota.items ≡ replicate c.args.count 1 =
    grind (arith, common_steps) in
    let fill : c.in_ok-fill.fill.items ≡ replicate c.args.count 0 = grind (arith, common_steps) in
    only_valid c.args.count c.in_ok-quota.quota.items c.in_ok-fill.fill.items _ c.requires quota
    fill (grind (arith, common_steps))
