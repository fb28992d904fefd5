use Rattle.std.proofs.Common.{◌≡◌, ◌<◌, ℕ, List, Option, Some, IfOk, length, subst}
use Rattle.programme_table.specs.Table.{codes_of}
use Rattle.candidate_table.specs.Table.{numbers_of}
use Rattle.market.specs.Stability.{held_by}
use Rattle.run_frame.specs.Files.{IsJudged, moment}
use Rattle.run_frame.proofs.JudgedTables.{judged-lent, judged-stop, table-ok}
use Rattle.place_run.specs.Tables.{Tables, placement_said}
use Rattle.place_run.proofs.JudgedFiles.{placement-judges}
use Rattle.place_run.proofs.inputs.Inputs.read_placement.Goals as goal

pub returns-in_err-bytes-clause-judged : goal.returns-in_err-bytes-clause-judged
returns-in_err-bytes-clause-judged g c =
    judged-stop (placement-judges _ _) c.from_residual.ensures.1 c.in_err-bytes.ensures.reading

pub returns-clause-judged : goal.returns-clause-judged
returns-clause-judged g c =
    let inside = c.self.inside in
    let codes = codes_of inside.programmes.rows in
    let numbers = numbers_of inside.candidates.numbers in
    subst (λ (v : Tables). IsJudged (g.H.Shelf.files c.args.shelf.now) c.args.name.now
    (placement_said (codes_of v.programmes.rows) (numbers_of v.candidates.numbers))
    c.table_or_stop.result
    (moment g.H.Shelf.faults g.H.Shelf.tally c.args.shelf.now)
    (moment g.H.Shelf.faults g.H.Shelf.tally c.read_file.new.shelf)) c.self.view_is
    (judged-lent (placement-judges codes numbers) c.read_held.result c.deref.ensures.value
    c.in_ok-bytes.ensures.reading c.read_held.ensures.read c.table_or_stop.ensures)

pub returns-clause-programmes : goal.returns-clause-programmes
returns-clause-programmes g c =
    subst (λ (v : Tables). IfOk c.table_or_stop.result (λ (held : List (Option ℕ)). (i p : ℕ)
    → held_by held i ≡ Some p → p < length (codes_of v.programmes.rows))) c.self.view_is
    (table-ok (λ (held : List (Option ℕ)). (i p : ℕ)
    → held_by held i ≡ Some p → p < length (codes_of c.self.inside.programmes.rows))
    c.read_held.result c.table_or_stop.result c.table_or_stop.ensures
    c.read_held.ensures.programmes)
