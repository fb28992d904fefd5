use Rattle.std.proofs.Common.{sym, ap, ◌∙◌}
use Rattle.programme_table.proofs.Growing.{clash-table_of, table_of-snoc}
use Rattle.programme_table.specs.Growth.{clash, with_programme}
use Rattle.programme_table.proofs.table.ProgrammeTableTakesAheadUnitFields.take_ahead.Goals as goal

pub returns-in-Some : goal.returns-in-Some
returns-in-Some c = λ version earlier row has says. (
  sym (clash-table_of version earlier row c.args.row says)
      ∙ ap (λ table. clash table c.args.row) (sym has) ∙ sym c.clash.ensures ∙ c.in-Some.is,
  has,
)

pub returns-in_ok-add-in-None : goal.returns-in_ok-add-in-None
returns-in_ok-add-in-None c = λ version earlier row has says. (
  sym (clash-table_of version earlier row c.args.row says)
      ∙ ap (λ table. clash table c.args.row) (sym has) ∙ sym c.clash.ensures ∙ c.in-None.is,
  c.in_ok-add-in-None.ensures {u = tt} ∙ ap (λ table. with_programme table c.args.row) has
      ∙ table_of-snoc version earlier row c.args.row says,
)
