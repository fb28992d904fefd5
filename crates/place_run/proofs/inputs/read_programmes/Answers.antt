use Rattle.run_frame.proofs.JudgedTables.{judged-lent, judged-stop}
use Rattle.place_run.proofs.JudgedFiles.{programmes-judges}
use Rattle.place_run.proofs.inputs.read_programmes.Goals as goal

pub returns-in_err-bytes-clause-judged : goal.returns-in_err-bytes-clause-judged
returns-in_err-bytes-clause-judged g c =
    judged-stop programmes-judges c.from_residual.ensures.1 c.in_err-bytes.ensures.reading

pub returns-clause-judged : goal.returns-clause-judged
returns-clause-judged g c =
    judged-lent programmes-judges c.read.result c.deref.ensures.value
    c.in_ok-bytes.ensures.reading c.read.ensures c.table_or_stop.ensures
