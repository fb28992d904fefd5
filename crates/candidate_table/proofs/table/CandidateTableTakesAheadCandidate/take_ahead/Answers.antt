use Rattle.std.proofs.Common.{◌≡◌, ◌++◌, ◌∷◌, [], None, Some, refl, sym, ap, subst, ◌∙◌}
use Rattle.place_base.specs.declared.fault.FileKind.TheVariants.{Candidates as candidates}
use Rattle.record_files.specs.FirstFaults.{duplicate_at}
use Rattle.record_files.specs.Keys.{line_of}
use Rattle.record_files.specs.Rows.{Row}
use Rattle.candidate_table.proofs.Growing.{HasRows-next, clash-known, clash-meaning, clash-new}
use Rattle.candidate_table.specs.Growth.{HasRows, IsFieldsOf, IsListFound, with_candidate}
use Rattle.candidate_table.specs.Rows.{codes_in, number_in}
use Rattle.candidate_table.specs.Table.{Candidates}
use Rattle.candidate_table.specs.declared.row.Fields.{Fields}
use Rattle.candidate_table.proofs.table.CandidateTableTakesAheadCandidate.take_ahead.Goals as goal

-- the fields of a row
abbrev fields_in : Row → Fields
fields_in row = record { line = row.0; number = number_in row; codes = codes_in row }

says-fields : (row : Row) → IsFieldsOf row (fields_in row)
says-fields row = record { line = refl; number = refl; codes = refl }

pub returns-in-Some : goal.returns-in-Some
returns-in-Some g c = λ version earlier row has kept.
    let programmes = g.P.Finder.numbers c.args._programmes.now in
    let table : Candidates = c.args.self.now in
    let known : line_of table.numbers (number_in row) ≡ Some c.in-Some.earlier =
    (λ j. line_of (sym c.self.view_is j).numbers (sym kept.number j))
    ∙ sym c.line_of.ensures ∙ c.in-Some.is in (
      sym (clash-meaning programmes earlier row table (fields_in row) has (says-fields row))
          ∙ clash-known programmes table (fields_in row) c.in-Some.earlier known
          ∙ ap (λ line. Some (duplicate_at candidates line 1 c.in-Some.earlier)) (sym kept.line)
          ∙ ap (λ fault. Some fault) (sym c.duplicate_at-fault.ensures),
      has,
    )

pub returns-in-Err : goal.returns-in-Err
returns-in-Err g c = λ version earlier row has kept.
    let programmes = g.P.Finder.numbers c.args._programmes.now in
    let table : Candidates = c.args.self.now in
    let new : line_of table.numbers (number_in row) ≡ None =
    (λ j. line_of (sym c.self.view_is j).numbers (sym kept.number j))
    ∙ sym c.line_of.ensures ∙ c.in_default.is in
    let told = subst (IsListFound programmes row.0 (codes_in row)) c.in-Err.is kept.list in (
      sym (clash-meaning programmes earlier row table (fields_in row) has (says-fields row))
          ∙ clash-new programmes table (fields_in row) new ∙ told,
      has,
    )

pub returns-in_ok-add-in-Ok : goal.returns-in_ok-add-in-Ok
returns-in_ok-add-in-Ok g c = λ version earlier row has kept.
    let programmes = g.P.Finder.numbers c.args._programmes.now in
    let table : Candidates = c.args.self.now in
    let new : line_of table.numbers (number_in row) ≡ None =
    (λ j. line_of (sym c.self.view_is j).numbers (sym kept.number j))
    ∙ sym c.line_of.ensures ∙ c.in_default.is in
    let told = subst (IsListFound programmes row.0 (codes_in row)) c.in-Ok.is kept.list in
    let grown = c.in_ok-add-in-Ok.ensures {u = tt}
    ∙ (λ j. with_candidate table (kept.number j) (kept.line j) c.in-Ok.list) in (
      sym (clash-meaning programmes earlier row table (fields_in row) has (says-fields row))
          ∙ clash-new programmes table (fields_in row) new ∙ told.0,
      subst (HasRows programmes (earlier ++ row ∷ [])) (sym grown)
          (HasRows-next programmes earlier row table (fields_in row) has (says-fields row)
          c.in-Ok.list kept.few told.0 told.1),
    )
