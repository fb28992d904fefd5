use Rattle.run_frame.proofs.JudgedTables.{judged-lent, judged-stop}
use Rattle.registration_desk.proofs.JudgedFiles.{placement-judges}
use Rattle.registration_desk.proofs.inputs.read_placement.Goals as goal

pub returns-in_err-bytes-clause-judged : goal.returns-in_err-bytes-clause-judged
returns-in_err-bytes-clause-judged g c =
    judged-stop placement-judges c.from_residual.ensures.1 c.in_err-bytes.ensures.reading

pub returns-clause-judged : goal.returns-clause-judged
returns-clause-judged g c =
    judged-lent placement-judges c.read_alone.result c.deref.ensures.value
    c.in_ok-bytes.ensures.reading c.read_alone.ensures c.table_or_stop.ensures
