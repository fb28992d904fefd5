use Rattle.std.proofs.Common.{◌≡◌, arith, ap, sym, subst, ◌∙◌}
use Rattle.registration_desk.specs.States.{DeskValue}
use Rattle.registration_desk.specs.Rule.{HasReplies}
use Rattle.registration_desk.proofs.Ends.{desk_closed}
use Rattle.registration_desk.proofs.Histories.{once_each, only_placed}
use Rattle.registration_desk.proofs.Held.{state_or}
use Rattle.registration_desk.proofs.desk.Desk.close.Goals as goal

pub unreachable-requires : goal.unreachable-requires
unreachable-requires c =
    let last = c.join_all-last.ensures in
    let e = desk_closed c.args.self.table.shared.key _ _ _ _ _ c.close_with-closed.ensures.values.2
    last.idle.live last.all last.idle.free c.take.ensures.value in
    c.in_default.not-Some e.state e.is

-- the state given back
closed : (c : goal.After-checked)
    → HasReplies c.args.self.table.shared.key.desk.value.seats
    c.args.self.table.shared.key.desk.value.requests c.join_all-last.result.me.0.served
    c.in-Some.state
closed c =
    let last = c.join_all-last.ensures in
    let e = desk_closed c.args.self.table.shared.key _ _ _ _ _ c.close_with-closed.ensures.values.2
    last.idle.live last.all last.idle.free c.take.ensures.value in
    let same : e.state ≡ c.in-Some.state = ap (state_or e.state) (sym e.is ∙ c.in-Some.is) in
    subst (λ (d : DeskValue). HasReplies c.args.self.table.shared.key.desk.value.seats
    c.args.self.table.shared.key.desk.value.requests c.join_all-last.result.me.0.served d) same
    e.fits

pub returns-clause-seats : goal.returns-clause-seats
returns-clause-seats c = (closed c).same_seats

pub returns-clause-requests : goal.returns-clause-requests
returns-clause-requests c = (closed c).same_requests

pub returns-clause-count : goal.returns-clause-count
returns-clause-count c = (closed c).count ∙ c.join_all-last.ensures.served

pub returns-clause-all : goal.returns-clause-all
returns-clause-all c =
    let last = c.join_all-last.ensures in
    let e = desk_closed c.args.self.table.shared.key _ _ _ _ _ c.close_with-closed.ensures.values.2
    last.idle.live last.all last.idle.free c.take.ensures.value in
    let all = e.all in
    let served = last.served in
    let left = last.left in
    omega arith

pub returns-clause-once : goal.returns-clause-once
returns-clause-once c = once_each _ _ _ c.checked.ensures

pub returns-clause-placed : goal.returns-clause-placed
returns-clause-placed c = only_placed _ _ _ c.checked.ensures
