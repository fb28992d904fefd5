use Rattle.std.proofs.Common.{◌≡◌, ℕ, ◌^◌, arith, ap, ◌∙◌, length, slice_index_or, Some, rules}
use Rattle.market.specs.Dictatorships.{list_at}
use Rattle.interleaving_core.specs.declared.parts.Phase.TheVariants.{Seated}
use Rattle.interleaving_core.specs.Flags.{flag_bit}
use Rattle.word_rule.proofs.Holder.{raise_allowed}
use Rattle.word_rule.proofs.HolderCopies.{next_raise}
use Rattle.word_rule.proofs.raising.raise_step.Goals as goal

pub fetch_or-requires : goal.fetch_or-requires
fetch_or-requires c =
    let me = c.args.me.now in
    let round = c.args.round.now in
    let place = c.in-Some-Seated.place in
    let shown : me.phase ≡ Some (Seated place c.in-Some-Seated.field-0-1) = search rules in
    let next = next_raise round me (Seated place c.in-Some-Seated.field-0-1) c.requires.seat shown
    c.requires.may in
    let list = c.list.ensures ∙ ap (λ d. list_at d me.committed) c.requires.dict in
    let programme = ap (λ l. slice_index_or l place 0) list in
    let inside = next.programme in
    let words = round.words_are in
    let word = c.flag_word-word.ensures in
    let programmes = c.programmes.ensures.count ∙ ap (λ d. length d.quota) c.requires.dict in
    let turns = c.turns.ensures.count ∙ ap (λ d. length d.lists) c.requires.dict in
    let mask = c.flag_mask-mask.ensures ∙ ap (λ (p : ℕ). 2 ^ flag_bit p) programme in (
      c.requires.seat.table,
      omega arith,
      raise_allowed _ _ _ _ _ _ _ _ me.live me.narrow next.may (omega arith) mask,
    )
