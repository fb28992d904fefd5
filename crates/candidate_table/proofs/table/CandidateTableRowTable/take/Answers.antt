use Rattle.std.proofs.lemmas.Result.{IfOk-weaker}
use Rattle.candidate_table.proofs.table.CandidateTableRowTable.take.Goals as goal

pub returns : goal.returns
returns g c = IfOk-weaker c.take_ahead.result _ _
    (λ found taken version earlier row has says.
    taken version earlier row has (c.in_ok-candidate.ensures {u = tt} version row says))
    c.take_ahead.ensures
