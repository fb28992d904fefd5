use Rattle.std.proofs.Common.{ℕ, ◌+◌, nat_le, refl, ap, arith}
use Rattle.interleaving_core.specs.Events.{Seats}
use Rattle.interleaving_core.proofs.Machines.{allowed, answers_refused, ready_within, count_is, seats_small}
use Rattle.interleaving_core.proofs.MachineEvents.{takes_seat}
use Rattle.interleaving_core.proofs.state.CoreState.seat.Goals as goal

pub entry_at-programme-requires : goal.entry_at-programme-requires
entry_at-programme-requires c =
    let x = allowed c.self.inside _ _ _ _
    (Seats c.in_ok-committed.committed c.in_ok-committed.place) c.self.invariant c.self.view_is
    c.requires c.index.ensures c.index.ensures (c.in_ok-committed.ensures c.self.inside.dict) in
    let ready = ready_within c.self.inside _ _ _ _ c.self.invariant x.there x.ok in
    record { valid = c.self.invariant.valid; turn = ready.0; place = ready.1 }

pub overflow_add-taken : goal.overflow_add-taken
overflow_add-taken c =
    let count = count_is c.self.inside c.entry_at-programme.result c.index-2.result.now
    c.self.invariant c.entry_at-programme.ensures.programme c.index-2.ensures in
    let small = seats_small c.self.inside c.entry_at-programme.result c.self.invariant
    c.entry_at-programme.ensures.programme in
    omega arith

pub invariant_of-self : goal.invariant_of-self
invariant_of-self c =
    let x = allowed c.self.inside _ _ _ _
    (Seats c.in_ok-committed.committed c.in_ok-committed.place) c.self.invariant c.self.view_is
    c.requires c.index.ensures c.index_mut-2.ensures.value
    (c.in_ok-committed.ensures c.self.inside.dict) in
    let count = count_is c.self.inside c.entry_at-programme.result c.index-2.result.now
    c.self.invariant c.entry_at-programme.ensures.programme c.index-2.ensures in
    (takes_seat c.self.inside _ _ _ refl _ _ _ _ _ x c.entry_at-programme.ensures.entry count
    (ap (λ (q : ℕ). nat_le q (c.index-2.result.now + 1)) c.quota.ensures) refl).kept

pub returns : goal.returns
returns c =
    let x = allowed c.self.inside _ _ _ _
    (Seats c.in_ok-committed.committed c.in_ok-committed.place) c.self.invariant c.self.view_is
    c.requires c.index.ensures c.index_mut-2.ensures.value
    (c.in_ok-committed.ensures c.self.inside.dict) in
    let count = count_is c.self.inside c.entry_at-programme.result c.index-2.result.now
    c.self.invariant c.entry_at-programme.ensures.programme c.index-2.ensures in
    (takes_seat c.self.inside _ _ _ refl _ _ _ _ _ x c.entry_at-programme.ensures.entry count
    (ap (λ (q : ℕ). nat_le q
    (c.index-2.result.now + 1)) c.quota.ensures) refl).step _ c.self.view_is

pub returns-in_err-committed : goal.returns-in_err-committed
returns-in_err-committed c =
    answers_refused c.self.inside _ _ _ _ _ c.from_residual.ensures.0 c.self.view_is c.requires
    c.index.ensures (c.in_err-committed.ensures c.self.inside.dict)
