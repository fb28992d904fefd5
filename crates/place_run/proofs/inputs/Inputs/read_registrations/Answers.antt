use Rattle.std.proofs.Common.{subst}
use Rattle.candidate_table.specs.Table.{numbers_of}
use Rattle.run_frame.specs.Files.{IsJudged, moment}
use Rattle.run_frame.proofs.JudgedTables.{judged-lent, judged-stop}
use Rattle.place_run.specs.Tables.{Tables, registrations_said}
use Rattle.place_run.proofs.JudgedFiles.{registrations-judges}
use Rattle.place_run.proofs.inputs.Inputs.read_registrations.Goals as goal

pub returns-in_err-bytes-clause-judged : goal.returns-in_err-bytes-clause-judged
returns-in_err-bytes-clause-judged g c =
    judged-stop (registrations-judges _) c.from_residual.ensures.1 c.in_err-bytes.ensures.reading

pub returns-clause-judged : goal.returns-clause-judged
returns-clause-judged g c =
    let inside = c.self.inside in
    let numbers = numbers_of inside.candidates.numbers in
    subst (λ (v : Tables). IsJudged (g.H.Shelf.files c.args.shelf.now) c.args.name.now
    (registrations_said (numbers_of v.candidates.numbers)) c.table_or_stop.result
    (moment g.H.Shelf.faults g.H.Shelf.tally c.args.shelf.now)
    (moment g.H.Shelf.faults g.H.Shelf.tally c.read_file.new.shelf)) c.self.view_is
    (judged-lent (registrations-judges numbers) c.read.result c.deref.ensures.value
    c.in_ok-bytes.ensures.reading c.read.ensures.read c.table_or_stop.ensures)
