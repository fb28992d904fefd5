use Rattle.std.proofs.Common.{◌∙◌, refl}
use Rattle.run_frame.proofs.Readings.{file-goes-on, file-stops, granted-as, judged-as, plan-ends, reached, stopped-as}
use Rattle.place_run.proofs.inputs.Inputs.read.Goals as goal

pub returns-in_err-programmes-clause-reading : goal.returns-in_err-programmes-clause-reading
returns-in_err-programmes-clause-reading g c =
    let one = judged-as refl c.word.ensures c.in_err-programmes.ensures.judged in
    stopped-as c.from_residual.ensures.1 (file-stops _ one)

pub read_candidates-requires-clause-granted : goal.read_candidates-requires-clause-granted
read_candidates-requires-clause-granted g c κs within =
    let one = judged-as refl c.word.ensures c.in_ok-programmes.ensures.judged in
    granted-as c.in_ok-programmes.ensures.grants c.word-2.ensures
    (reached c.requires.granted.1 one).0

pub returns-in_err-candidates-clause-reading : goal.returns-in_err-candidates-clause-reading
returns-in_err-candidates-clause-reading g c =
    let one = judged-as refl c.word.ensures c.in_ok-programmes.ensures.judged in
    let two = judged-as c.in_ok-programmes.ensures.files c.word-2.ensures
    c.in_err-candidates.ensures.judged in
    stopped-as c.from_residual-in_err-candidates.ensures.1
    (file-goes-on _ (refl, λ t. (refl, λ t. tt)) one (file-stops _ two))

pub read_ranks-requires-clause-granted : goal.read_ranks-requires-clause-granted
read_ranks-requires-clause-granted g c κs within =
    let one = judged-as refl c.word.ensures c.in_ok-programmes.ensures.judged in
    let two = judged-as c.in_ok-programmes.ensures.files c.word-2.ensures
    c.in_ok-candidates.ensures.judged in
    granted-as (c.in_ok-candidates.ensures.grants ∙ c.in_ok-programmes.ensures.grants)
    c.word-name.ensures
    (reached (reached c.requires.granted.1 one).1 two).0

pub returns-in_err-ranks-clause-reading : goal.returns-in_err-ranks-clause-reading
returns-in_err-ranks-clause-reading g c =
    let one = judged-as refl c.word.ensures c.in_ok-programmes.ensures.judged in
    let two = judged-as c.in_ok-programmes.ensures.files c.word-2.ensures
    c.in_ok-candidates.ensures.judged in
    let three = judged-as (c.in_ok-candidates.ensures.files ∙ c.in_ok-programmes.ensures.files)
    c.word-name.ensures c.in_err-ranks.ensures.judged in
    stopped-as c.from_residual-in_err-ranks.ensures.1
    (file-goes-on _ (refl, λ t. (refl, λ t. tt)) one
    (file-goes-on _ (refl, λ t. tt) two (file-stops _ three)))

pub returns-clause-reading : goal.returns-clause-reading
returns-clause-reading g c =
    let one = judged-as refl c.word.ensures c.in_ok-programmes.ensures.judged in
    let two = judged-as c.in_ok-programmes.ensures.files c.word-2.ensures
    c.in_ok-candidates.ensures.judged in
    let three = judged-as (c.in_ok-candidates.ensures.files ∙ c.in_ok-programmes.ensures.files)
    c.word-name.ensures c.in_ok-ranks.ensures.judged in
    file-goes-on _ (refl, λ t. (refl, λ t. tt)) one
    (file-goes-on _ (refl, λ t. tt) two (file-goes-on _ tt three (plan-ends _ _ _ refl tt)))
