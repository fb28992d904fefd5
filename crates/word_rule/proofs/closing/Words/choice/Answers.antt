use Rattle.std.proofs.Common.{arith, ap, ◌∙◌}
use Rattle.word_rule.proofs.Endings.{cell_shown}
use Rattle.word_rule.proofs.Layouts.{place_in}
use Rattle.word_rule.proofs.closing.Words.choice.Goals as goal

pub cell_of-requires : goal.cell_of-requires
cell_of-requires c =
    let shown = cell_shown _ _ _ _ _ _ _ _ c.self.invariant.3 c.self.view_is c.requires
    c.cell_word.ensures c.word-word.ensures in
    let small = shown.1 in
    omega arith

pub unreachable-requires : goal.unreachable-requires
unreachable-requires c =
    let shown = cell_shown _ _ _ _ _ _ _ _ c.self.invariant.3 c.self.view_is c.requires
    c.cell_word.ensures c.word-word.ensures in
    c.in_default.not-Committed _ (c.cell_of.ensures ∙ shown.0)

pub returns : goal.returns
returns c =
    let shown = cell_shown _ _ _ _ _ _ _ _ c.self.invariant.3 c.self.view_is c.requires
    c.cell_word.ensures c.word-word.ensures in
    ap place_in (c.in-Committed.ensures {u = tt} ∙ shown.0)
