use Rattle.std.proofs.Common.{arith}
use Rattle.std.specs.Prelude.{is_some}
use Rattle.market.specs.Choices.{held_in_table}
use Rattle.market.proofs.Members.{count_le}
use Rattle.market.proofs.tentative.Tentative.has_several.Goals as goal

pub overflow_add-count : goal.overflow_add-count
overflow_add-count c =
    let n = count_le (λ t. is_some (held_in_table c.args.self.now t c.args.candidate))
    c.loop-kind.kind in
    let e = c.type_count-kind-end.ensures.count in
    let t = c.type_count-kind-end.ensures.valid.types in
    omega arith
