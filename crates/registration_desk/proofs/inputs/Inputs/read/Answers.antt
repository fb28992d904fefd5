use Rattle.std.proofs.Common.{refl}
use Rattle.run_frame.proofs.Readings.{file-goes-on, file-stops, granted-as, judged-as, plan-ends, reached, stopped-as}
use Rattle.registration_desk.proofs.inputs.Inputs.read.Goals as goal

pub returns-in_err-placement-clause-reading : goal.returns-in_err-placement-clause-reading
returns-in_err-placement-clause-reading g c =
    stopped-as c.from_residual.ensures.1
    (file-stops _ (judged-as refl c.word.ensures c.in_err-placement.ensures.judged))

pub read_request_list-requires : goal.read_request_list-requires
read_request_list-requires g c =
    let one = judged-as refl c.word.ensures c.in_ok-placement.ensures.judged in
    granted-as c.in_ok-placement.ensures.grants c.word-2.ensures (reached c.requires.granted.1 one).0

pub returns-in_err-requests-clause-reading : goal.returns-in_err-requests-clause-reading
returns-in_err-requests-clause-reading g c =
    let one = judged-as refl c.word.ensures c.in_ok-placement.ensures.judged in
    let two = judged-as c.in_ok-placement.ensures.files c.word-2.ensures
    c.in_err-requests.ensures.judged in
    stopped-as c.from_residual-in_err-requests.ensures.1
    (file-goes-on _ (refl, λ t. tt) one (file-stops _ two))

pub returns-clause-reading : goal.returns-clause-reading
returns-clause-reading g c =
    let one = judged-as refl c.word.ensures c.in_ok-placement.ensures.judged in
    let two = judged-as c.in_ok-placement.ensures.files c.word-2.ensures
    c.in_ok-requests.ensures.judged in
    file-goes-on _ (refl, λ t. tt) one (file-goes-on _ tt two (plan-ends _ _ _ refl tt))
