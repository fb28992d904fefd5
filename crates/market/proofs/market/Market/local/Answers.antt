use Rattle.std.proofs.Common.{◌∙◌, ap, length, arith}
use Rattle.std.proofs.lemmas.List.{get_or_read}
use Rattle.market.specs.Problems.{Problem}
use Rattle.market.specs.LocalNumbers.{local_of}
use Rattle.market.proofs.market.Market.local.Goals as goal

pub returns : goal.returns
returns c =
    let s = c.self.inside in
    let n = ap (λ (m : Problem). length m.programmes) c.self.view_is in
    let count = c.self.invariant.locals.count in
    get_or_read s.locals.items c.args.programme c.index.result.now (omega arith) c.index.ensures 0
    ∙ c.self.invariant.locals.each c.args.programme (omega arith)
    ∙ ap (λ (m : Problem). local_of m c.args.programme) c.self.view_is
