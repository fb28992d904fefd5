use Rattle.std.proofs.Common.{Some, refl, ap}
use Rattle.interleaving_core.specs.declared.parts.Claiming.{Claiming}
use Rattle.interleaving_core.specs.Events.{ReadsFlags, with_claim}
use Rattle.interleaving_core.specs.Machines.{view_of}
use Rattle.interleaving_core.proofs.Machines.{allowed, answers_refused, flag_word_is, within, flag_there}
use Rattle.interleaving_core.proofs.MachineEvents.{reads_flags}
use Rattle.interleaving_core.proofs.state.CoreState.read_flags.Goals as goal

pub invariant_of-self : goal.invariant_of-self
invariant_of-self c =
    let x = allowed c.self.inside _ _ _ _
    (ReadsFlags c.in_ok-claim.claim.turn c.in_ok-claim.claim.passed) c.self.invariant c.self.view_is
    c.requires c.index.ensures c.index_mut.ensures.value c.in_ok-claim.ensures in
    let word = flag_word_is c.self.inside _ _ _ _ c.self.invariant
    c.entry_at-programme.ensures.programme c.flag_group.ensures c.entry_at-programme.ensures.entry
    c.index-word.ensures in
    (reads_flags c.self.inside _ _ _ refl _ _ _ x word
    (ap (λ (y : Claiming). with_claim (view_of c.index_mut.result.now) (Some y))
    c.past_flags-next.ensures)).kept

pub returns : goal.returns
returns c =
    let x = allowed c.self.inside _ _ _ _
    (ReadsFlags c.in_ok-claim.claim.turn c.in_ok-claim.claim.passed) c.self.invariant c.self.view_is
    c.requires c.index.ensures c.index_mut.ensures.value c.in_ok-claim.ensures in
    let word = flag_word_is c.self.inside _ _ _ _ c.self.invariant
    c.entry_at-programme.ensures.programme c.flag_group.ensures c.entry_at-programme.ensures.entry
    c.index-word.ensures in
    (reads_flags c.self.inside _ _ _ refl _ _ _ x word
    (ap (λ (y : Claiming). with_claim (view_of c.index_mut.result.now) (Some y))
    c.past_flags-next.ensures)).step _ c.self.view_is

pub entry_at-programme-requires-clause-turn : goal.entry_at-programme-requires-clause-turn
entry_at-programme-requires-clause-turn c =
    (within c.self.inside _ _ _ c.self.invariant c.self.view_is c.requires c.index.ensures).claimed
    _ c.in_ok-claim.ensures.0

pub index-word-requires : goal.index-word-requires
index-word-requires c =
    flag_there c.self.inside _ _ c.self.invariant c.entry_at-programme.ensures.programme
    c.flag_group.ensures

pub past_flags-next-requires-clause-turn : goal.past_flags-next-requires-clause-turn
past_flags-next-requires-clause-turn c =
    (within c.self.inside _ _ _ c.self.invariant c.self.view_is c.requires c.index.ensures).claimed
    _ c.in_ok-claim.ensures.0

pub returns-in_err-claim : goal.returns-in_err-claim
returns-in_err-claim c =
    answers_refused c.self.inside _ _ _ _ _ c.from_residual.ensures.0 c.self.view_is c.requires
    c.index.ensures c.in_err-claim.ensures
