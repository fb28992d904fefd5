use Rattle.run_frame.proofs.JudgedTables.{judged-lent, judged-stop}
use Rattle.registration_desk.proofs.JudgedFiles.{requests-judges}
use Rattle.registration_desk.proofs.inputs.read_request_list.Goals as goal

pub returns-in_err-bytes-clause-judged : goal.returns-in_err-bytes-clause-judged
returns-in_err-bytes-clause-judged g c =
    judged-stop requests-judges c.from_residual.ensures.1 c.in_err-bytes.ensures.reading

pub returns-clause-judged : goal.returns-clause-judged
returns-clause-judged g c =
    judged-lent requests-judges c.request_list.result c.deref.ensures.value
    c.in_ok-bytes.ensures.reading c.request_list.ensures c.table_or_stop.ensures
