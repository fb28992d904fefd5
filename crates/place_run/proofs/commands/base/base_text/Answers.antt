use Rattle.std.proofs.Common.{◌<◌, ◌≤◌, ◌++◌, length, sym, subst, ap, ◌∙◌, arith}
use Rattle.market.specs.Problems.{quota_of}
use Rattle.market.specs.declared.programme.Prog.{Prog}
use Rattle.programme_table.specs.Table.{codes_of}
use Rattle.record_files.specs.Texts.{text_of}
use Rattle.place_run.specs.commands.Base.{base_header, base_text, programme_row, rank_text}
use Rattle.place_run.proofs.RowTexts.{base-row, rows-more, texts-all}
use Rattle.place_run.proofs.commands.base.base_text.Goals as goal

pub loop-programme-preserved : goal.loop-programme-preserved
unfolding quota_of
loop-programme-preserved c =
    let problem = c.args.placed.now.problem in
    let m = problem.market in
    let held = c.args.placed.now.placement in
    let codes = codes_of problem.programmes.rows in
    let count = length m.programmes in
    let p = c.loop-programme.programme in
    let counted = c.programme_count-programme-end.ensures in
    let within : p < count = omega (arith, counted, c.loop-programme-test.true) in
    let coded = subst (λ n. p < n) (sym c.requires.named.programmes) within in
    let quota = c.from.ensures ∙ ap (λ (q : Prog). q.quota) c.programme.ensures in
    let holders = c.from-in-loop-programme.ensures ∙ c.held.ensures
    ∙ c.in_ok-bases.ensures.holders p within in
    let base = c.rank_field.ensures.text
    ∙ ap rank_text (c.base.ensures ∙ c.in_ok-bases.ensures.bases p within) in
    rows-more (programme_row codes m held) base_header count p c.loop-programme.bytes.items _
    within c.loop-programme.invariant
    (c.in_ok-put_row_4-2.ensures.row
    ∙ ap (λ v. c.loop-programme.bytes.items ++ v) (base-row codes m held p c.number_at.result
    c.from.result c.from-in-loop-programme.result (text_of c.rank_field.result) coded
    c.number_at.ensures quota holders base))

pub returns : goal.returns
unfolding base_text
returns c =
    let problem = c.args.placed.now.problem in
    let count = length problem.market.programmes in
    let row = programme_row (codes_of problem.programmes.rows) problem.market
    c.args.placed.now.placement in
    let counted = c.programme_count-programme-end.ensures in
    let all : count ≤ c.loop-programme.programme = omega
    (arith, counted, c.loop-programme-test.false) in
    c.loop-programme.invariant
    ∙ ap (λ v. base_header ++ v) (texts-all row count c.loop-programme.programme all)
