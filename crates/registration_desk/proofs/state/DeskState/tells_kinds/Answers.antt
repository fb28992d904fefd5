use Rattle.std.proofs.Common.{◌≡◌, length, sym, subst}
use Rattle.registration_desk.specs.States.{DeskValue}
use Rattle.registration_desk.specs.Reports.{desk_numbers, replies_of}
use Rattle.registration_desk.proofs.Counts.{replies_are}
use Rattle.registration_desk.proofs.Replying.{value_of}
use Rattle.registration_desk.proofs.state.DeskState.tells_kinds.Goals as goal

pub returns : goal.returns
returns c =
    let i = c.self.inside in
    let all = subst (λ (v : DeskValue). length v.history ≡ length v.requests) (sym c.self.view_is)
    c.requires in
    subst (λ (v : DeskValue). replies_of v.history ≡ desk_numbers v.seats v.requests) c.self.view_is
    (replies_are (value_of i) i.numbers.items i.total c.self.invariant.1 all
    c.count-count.ensures.distinct)
