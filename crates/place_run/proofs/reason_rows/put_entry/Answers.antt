use Rattle.std.proofs.Common.{◌<◌, ◌++◌, sym, subst, ap, ◌∙◌}
use Rattle.std.specs.Prelude.{slice_get, slice_index}
use Rattle.candidate_table.specs.Table.{numbers_of}
use Rattle.programme_table.specs.Table.{codes_of}
use Rattle.record_files.specs.Texts.{text_of}
use Rattle.reports.specs.Reasons.{entry_at}
use Rattle.place_run.proofs.RowTexts.{reason-row}
use Rattle.place_run.proofs.reason_rows.put_entry.Goals as goal

pub returns : goal.returns
returns c =
    let problem = c.args.placed.now.problem in
    let m = problem.market in
    let i = c.args.candidate in
    let place = c.args.place in
    let codes = codes_of problem.programmes.rows in
    let named = c.requires.named.named in
    let known = subst (λ n. i < n) (sym named.candidates) c.requires.candidate in
    let listed = subst (λ n. entry_at m i place < n) (sym named.programmes)
    (c.requires.named.valid.list_entries i place c.requires.candidate c.requires.place) in
    let coded = ap (λ l. slice_get codes (slice_index l place)) (sym c.list.ensures.list)
    ∙ c.number_at-2.ensures in
    c.put_row_4.ensures
    ∙ ap (λ v. c.args.rows.now ++ v) (reason-row codes (numbers_of problem.numbers) m
    c.args.placed.now.placement i place c.number_at.result c.number_at-2.result
    c.reason-reason.result c.as_bytes.result.now (text_of c.reason_base.result) known listed
    c.number_at.ensures coded c.reason-reason.ensures
    (c.as_bytes.ensures.value ∙ c.reason_word.ensures.word) c.reason_base.ensures.text)
