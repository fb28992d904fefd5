use Rattle.std.proofs.Common.{ℕ, ◌<◌, List, length, ap, sym, ◌∙◌, subst}
use Rattle.market.specs.Dictatorships.{IsValidDictatorship}
use Rattle.interleaving_core.specs.Core.{turn_count}
use Rattle.word_rule.specs.Layout.{first_words, programme_count, word_count}
use Rattle.word_rule.specs.declared.rule.RoundKey.{RoundKey}
use Rattle.word_rule.proofs.Openings.{first_words_long, table_opens}
use Rattle.word_rule.proofs.ShownOpenings.{shows_opening}
use Rattle.word_rule.proofs.opening.open_round.Goals as goal

pub of_words-requires : goal.of_words-requires
of_words-requires c =
    let kept = c.of.ensures in
    let opening = c.in_ok-words.ensures {u = tt} ∙ ap first_words (sym kept) in
    let valid = subst IsValidDictatorship (sym kept) c.turns-turns.ensures.valid in
    table_opens _ _ (c.as_slice.ensures.value ∙ opening) valid c.requires.0 c.requires.1

pub returns-clause-opens : goal.returns-clause-opens
returns-clause-opens c = shows_opening _

pub invariant_of-round : goal.invariant_of-round
invariant_of-round c =
    let made = c.in_ok-table.ensures {u = tt} in
    let dict = ap (λ (k : RoundKey). k.dict.value) made.5 ∙ c.of.ensures in
    let words = c.as_slice.ensures.value ∙ c.in_ok-words.ensures {u = tt} in
    let valid = c.turns-turns.ensures.valid in
    record {
      turns_are = c.turns-turns.ensures.count ∙ sym (ap (λ d. turn_count d) dict);
      programmes_are = c.programmes-programmes.ensures.count
          ∙ sym (ap (λ d. programme_count d) dict);
      words_are = made.0 ∙ (ap (λ (l : List ℕ). length l) words
          ∙ (first_words_long c.args.dict.now valid ∙ sym (ap (λ d. word_count d) dict)));
      valid = subst IsValidDictatorship (sym dict) valid;
      no_slots = made.1;
      staffed = subst (λ (k : RoundKey). 0 < k.workers) (sym made.5) c.requires.0;
    }
