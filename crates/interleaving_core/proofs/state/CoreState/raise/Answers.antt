use Rattle.std.proofs.Common.{ap, refl, bit_or}
use Rattle.interleaving_core.specs.Events.{Raises}
use Rattle.interleaving_core.proofs.Machines.{allowed, answers_refused, seated_within, flag_word_is}
use Rattle.interleaving_core.proofs.MachineEvents.{raises_flag}
use Rattle.interleaving_core.proofs.state.CoreState.raise.Goals as goal

pub entry_at-programme-requires : goal.entry_at-programme-requires
entry_at-programme-requires c =
    let x = allowed c.self.inside _ _ _ _
    (Raises c.in_ok-committed.committed c.in_ok-committed.place) c.self.invariant c.self.view_is
    c.requires c.index.ensures c.index.ensures (c.in_ok-committed.ensures c.self.inside.dict) in
    let seated = seated_within c.self.inside _ _ _ _ c.self.invariant x.there x.ok in
    record { valid = c.self.invariant.valid; turn = seated.0; place = seated.1 }

pub invariant_of-self : goal.invariant_of-self
invariant_of-self c =
    let x = allowed c.self.inside _ _ _ _
    (Raises c.in_ok-committed.committed c.in_ok-committed.place) c.self.invariant c.self.view_is
    c.requires c.index.ensures c.index_mut-2.ensures.value
    (c.in_ok-committed.ensures c.self.inside.dict) in
    let word = flag_word_is c.self.inside _ _ _ _ c.self.invariant
    c.entry_at-programme.ensures.programme c.flag_group-group.ensures refl c.index-2.ensures in
    (raises_flag c.self.inside _ _ _ refl _ _ _ _ _ _ x c.entry_at-programme.ensures.entry
    c.flag_group-group.ensures word
    (ap (λ n. bit_or c.index-2.result.now n) c.flag_mask.ensures) refl).kept

pub returns : goal.returns
returns c =
    let x = allowed c.self.inside _ _ _ _
    (Raises c.in_ok-committed.committed c.in_ok-committed.place) c.self.invariant c.self.view_is
    c.requires c.index.ensures c.index_mut-2.ensures.value
    (c.in_ok-committed.ensures c.self.inside.dict) in
    let word = flag_word_is c.self.inside _ _ _ _ c.self.invariant
    c.entry_at-programme.ensures.programme c.flag_group-group.ensures refl c.index-2.ensures in
    (raises_flag c.self.inside _ _ _ refl _ _ _ _ _ _ x c.entry_at-programme.ensures.entry
    c.flag_group-group.ensures word
    (ap (λ n. bit_or c.index-2.result.now n) c.flag_mask.ensures) refl).step _ c.self.view_is

pub returns-in_err-committed : goal.returns-in_err-committed
returns-in_err-committed c =
    answers_refused c.self.inside _ _ _ _ _ c.from_residual.ensures.0 c.self.view_is c.requires
    c.index.ensures (c.in_err-committed.ensures c.self.inside.dict)
