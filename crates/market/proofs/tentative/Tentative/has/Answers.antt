use Rattle.std.proofs.Common.{ℕ, ◌<◌, ◌∙◌, ap, arith}
use Rattle.market.specs.Counting.{is_programme}
use Rattle.market.specs.Choices.{held_in_table}
use Rattle.market.proofs.Cutting.{kind-is}
use Rattle.market.proofs.tentative.Tentative.has.Goals as goal

pub choice-requires-clause-kind : goal.choice-requires-clause-kind
choice-requires-clause-kind c =
    let k = kind-is c.args.market.now c.args.programme c.programme-kind.result
    c.programme-kind.ensures in
    let t = c.requires.table.types in
    let l = c.requires.valid.kinds c.args.programme c.requires.programme in
    omega arith

pub choice-requires-clause-candidate : goal.choice-requires-clause-candidate
choice-requires-clause-candidate c =
    let m = c.args.market.now in
    let kind = c.programme-kind.result.kind in
    let k = kind-is m c.args.programme c.programme-kind.result c.programme-kind.ensures in
    let l = c.requires.valid.kinds c.args.programme c.requires.programme in
    let lk : kind < m.types = omega arith in
    let n = c.requires.table.candidates kind lk in
    let i = c.requires.candidate in
    omega arith

pub returns : goal.returns
returns c =
    let k = kind-is c.args.market.now c.args.programme c.programme-kind.result
    c.programme-kind.ensures in
    c.is_choice.ensures
    ∙ ap (is_programme c.args.programme)
    (c.choice.ensures ∙ ap (λ (t : ℕ). held_in_table c.args.self.now t c.args.candidate) k)
