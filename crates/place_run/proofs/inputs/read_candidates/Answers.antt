use Rattle.std.specs.Prelude.{All}
use Rattle.std.proofs.Common.{length}
use Rattle.programme_table.specs.Table.{codes_of}
use Rattle.candidate_table.specs.Table.{IsPreferenceList}
use Rattle.run_frame.proofs.JudgedTables.{judged-lent, judged-stop, table-ok}
use Rattle.place_run.proofs.JudgedFiles.{candidates-judges}
use Rattle.place_run.proofs.inputs.read_candidates.Goals as goal

pub returns-in_err-bytes-clause-judged : goal.returns-in_err-bytes-clause-judged
returns-in_err-bytes-clause-judged g c =
    judged-stop (candidates-judges _) c.from_residual.ensures.1 c.in_err-bytes.ensures.reading

pub returns-clause-judged : goal.returns-clause-judged
returns-clause-judged g c =
    judged-lent (candidates-judges _) c.read.result c.deref.ensures.value
    c.in_ok-bytes.ensures.reading c.read.ensures.read c.table_or_stop.ensures

pub returns-clause-lists : goal.returns-clause-lists
returns-clause-lists g c =
    table-ok (λ table. All (IsPreferenceList (length (codes_of c.args.programmes.now.rows)))
    table.lists)
    c.read.result c.table_or_stop.result c.table_or_stop.ensures c.read.ensures.lists
