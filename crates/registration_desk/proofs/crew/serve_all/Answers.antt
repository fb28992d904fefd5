use Rattle.std.proofs.Common.{List, length, sym, ap, subst, ◌∙◌, arith}
use Rattle.registration_desk.specs.Desks.{AllNew, AreAllClerksOf, left_by}
use Rattle.registration_desk.specs.declared.desk.Clerk.{Clerk}
use Rattle.registration_desk.proofs.Crews.{whole, still_all, none_left}
use Rattle.registration_desk.proofs.crew.serve_all.Goals as goal

pub work_all-requires-clause-new : goal.work_all-requires-clause-new
work_all-requires-clause-new g c κs within =
    subst (AllNew c.in_ok-desk.desk) (sym c.as_mut_slice.ensures.value)
    (c.in_ok-desk.ensures {u = tt}).new

pub close-requires : goal.close-requires
close-requires g c =
    let opened = c.in_ok-desk.ensures {u = tt} in
    let value = c.as_mut_slice.ensures.value in
    let before = ap (λ (l : List Clerk). length l) value in
    let kept = c.work_all.auto.crew in
    let new = subst (AllNew c.in_ok-desk.desk) (sym value) opened.new in
    let all =
    whole c.in_ok-desk.crew.len c.work_all.new.crew c.in_ok-desk.crew.items
    (kept ∙ before) c.in_ok-desk.crew.ok.0 in
    subst (AreAllClerksOf c.in_ok-desk.desk) (sym all)
    (still_all c.in_ok-desk.desk c.as_mut_slice.result.now c.work_all.new.crew new kept
    c.work_all.ensures
    (kept ∙ (before ∙ (opened.count ∙ sym opened.clerks))))

pub returns-clause-every : goal.returns-clause-every
returns-clause-every g c =
    let opened = c.in_ok-desk.ensures {u = tt} in
    let value = c.as_mut_slice.ensures.value in
    let before = ap (λ (l : List Clerk). length l) value in
    let kept = c.work_all.auto.crew in
    let new = subst (AllNew c.in_ok-desk.desk) (sym value) opened.new in
    let all =
    whole c.in_ok-desk.crew.len c.work_all.new.crew c.in_ok-desk.crew.items
    (kept ∙ before) c.in_ok-desk.crew.ok.0 in
    let none = ap (λ (l : List Clerk). left_by l) all
    ∙ none_left c.in_ok-desk.desk c.as_mut_slice.result.now c.work_all.new.crew new kept
    c.work_all.ensures in
    let total = c.close.ensures.all in
    let count = c.close.ensures.count in
    let requests = ap (λ d. length d.requests) opened.desk in
    omega arith
