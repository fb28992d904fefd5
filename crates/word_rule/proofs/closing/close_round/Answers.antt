use Rattle.std.proofs.Common.{ℕ, arith, ap, ◌∙◌, sym, subst}
use Rattle.std.specs.Slots.{slots_items}
use Rattle.word_rule.specs.declared.layout.TheConstants.{MARK_WORD}
use Rattle.word_rule.specs.Layout.{mark_number}
use Rattle.word_rule.specs.Closing.{AreCommitted}
use Rattle.word_rule.specs.Rounds.{dict_of}
use Rattle.word_rule.specs.declared.seat.SharedRound.{SharedRound}
use Rattle.word_rule.proofs.Endings.{word_at, round_ends, ends_committed}
use Rattle.word_rule.proofs.closing.close_round.Goals as goal

pub invariant_of-result : goal.invariant_of-result
invariant_of-result c =
    let round = c.args.round in
    let words = slots_items c.close_with-closed.result.words in
    let counts = c.close_with-closed.ensures.counts in
    let values = c.close_with-closed.ensures.values in
    let ends = round_ends round.table.shared.key _ _ _ _ values.2 c.args.me.live c.requires.all
    c.requires.free in
    let half = ap mark_number (word_at words MARK_WORD c.word.result c.word.ensures)
    ∙ sym c.mark_number-committed.ensures in
    let wide = ends.wide in
    let table = round.words_are in
    let slots = round.no_slots in
    let words_count = counts.0 in
    let slots_count = counts.1 in
    let committed = subst (λ (z : ℕ). AreCommitted (dict_of round) words z
    c.mark_number-committed.result) (sym round.programmes_are)
    (ends_committed words _ _ _ ends half) in
    let seen = sym c.of-ended.ensures in (
      values.0,
      omega arith,
      omega arith,
      subst (λ (z : SharedRound). AreCommitted (dict_of z) words round.programmes
          c.mark_number-committed.result) seen committed,
    )

pub returns-clause-released : goal.returns-clause-released
returns-clause-released c =
    let round = c.args.round in
    let words = slots_items c.close_with-closed.result.words in
    let values = c.close_with-closed.ensures.values in
    let ends = round_ends round.table.shared.key _ _ _ _ values.2 c.args.me.live c.requires.all
    c.requires.free in
    let half = ap mark_number (word_at words MARK_WORD c.word.result c.word.ensures)
    ∙ sym c.mark_number-committed.ensures in
    let least = ends.least in
    omega arith

pub returns-clause-sealed : goal.returns-clause-sealed
returns-clause-sealed c =
    let round = c.args.round in
    let words = slots_items c.close_with-closed.result.words in
    let values = c.close_with-closed.ensures.values in
    let ends = round_ends round.table.shared.key _ _ _ _ values.2 c.args.me.live c.requires.all
    c.requires.free in
    let half = ap mark_number (word_at words MARK_WORD c.word.result c.word.ensures)
    ∙ sym c.mark_number-committed.ensures in
    let all = ends.all in
    omega arith
