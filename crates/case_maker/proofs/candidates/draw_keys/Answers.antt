use Rattle.std.proofs.Common.{◌≡◌, ℕ, ◌+◌, ◌<◌, ◌≤◌, List, [], ◌++◌, length, refl, sym, ap, ◌∙◌, arith, ⊎_elim, subst}
use Rattle.std.specs.Prelude.{slice_index_or, slice_set}
use Rattle.std.specs.List.{cons_option}
use Rattle.std.proofs.lemmas.Bool.{cases_lt}
use Rattle.std.proofs.lemmas.List.{get_or_default, get_or-set_other, get_or-set_same, length-set}
use Rattle.case_maker.specs.Draws.{Key, word_key}
use Rattle.case_maker.specs.Drawn.{HasGained}
use Rattle.case_maker.specs.Words.{Words, words_of}
use Rattle.case_maker.proofs.Taking.{after_none, taken-rest, taken-word}
use Rattle.case_maker.proofs.candidates.draw_keys.Goals as goal

-- one type more
gained-next : (words : Words) (candidate kind word : ℕ) (old mid : List (List Key))
    (d new : List Key) → HasGained words candidate old mid kind → kind < length mid
    → new ≡ slice_index_or mid kind d ++ cons_option (word_key word candidate) []
    → word ≡ words kind → HasGained words candidate old (slice_set mid kind new) (kind + 1)
gained-next words candidate kind word old mid d new h lt more word_is = record {
  types = length-set mid kind new ∙ h.types;
  gained = λ k below. ⊎_elim
      (λ (before : k < kind). get_or-set_other mid kind k new [] (λ e. omega arith)
      ∙ h.gained k before)
      (λ (from : kind ≤ k).
      let same : kind ≡ k = omega arith in
      subst (λ k. slice_index_or (slice_set mid kind new) k []
      ≡ slice_index_or old k [] ++ cons_option (word_key (words k) candidate) []) same
      (get_or-set_same mid kind new [] lt ∙ more
      ∙ ap (λ keys. keys ++ cons_option (word_key word candidate) [])
      (get_or_default mid kind d [] lt ∙ h.others kind (omega arith))
      ∙ ap (λ w. slice_index_or old kind [] ++ cons_option (word_key w candidate) []) word_is))
      (cases_lt k kind);
  others = λ k from. get_or-set_other mid kind k new [] (λ e. omega arith)
      ∙ h.others k (omega arith);
}

pub loop-kind-init : goal.loop-kind-init
loop-kind-init c = record {
  taken = sym (after_none c.args.words.now);
  gained = record {
    types = refl;
    gained = λ kind lt. absurd (omega arith);
    others = λ kind le. refl;
  };
}

pub loop-kind-preserved : goal.loop-kind-preserved
loop-kind-preserved c =
    let start = c.args.words.now in
    let kind = c.loop-kind.kind in
    let word = taken-word kind start c.loop-kind.words c.next_word-word.new.self
    c.next_word-word.result c.loop-kind.invariant.taken c.next_word-word.ensures in
    record {
      taken = taken-rest kind start c.loop-kind.words c.next_word-word.new.self
          c.next_word-word.result c.loop-kind.invariant.taken c.next_word-word.ensures;
      gained = gained-next (words_of start) c.args.candidate kind c.next_word-word.result
          c.args.keys.now c.loop-kind.keys c.index-keys-kind.result c.add.new.self
          c.loop-kind.invariant.gained (omega arith) c.in_ok-add.ensures word;
    }
