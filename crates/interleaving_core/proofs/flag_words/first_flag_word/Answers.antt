use Rattle.std.proofs.Common.{◌≡◌, ℕ, ◌+◌, ◌*◌, ◌^◌, true, false, ap, ◌∙◌, arith, bit_or}
use Rattle.interleaving_core.specs.declared.limits.TheConstants.{FLAGS_PER_WORD}
use Rattle.interleaving_core.specs.Flags.{flag_bit}
use Rattle.interleaving_core.proofs.Flags.{word_begins, word_more}
use Rattle.interleaving_core.proofs.flag_words.first_flag_word.Goals.{then-begins_full, else-begins_full}
use Rattle.interleaving_core.proofs.flag_words.first_flag_word.Goals as goal

pub loop-bit-init : goal.loop-bit-init
loop-bit-init c = record { word = word_begins c.args.dict.now c.args.group }

pub loop-bit-preserved : goal.loop-bit-preserved
loop-bit-preserved c =
    let v = c.loop-bit.invariant in
    let below = c.loop-bit.auto.bit-end in
    let test = c.loop-bit-test.true in
    let bit : flag_bit (FLAGS_PER_WORD * c.args.group + c.loop-bit.bit) ≡ c.loop-bit.bit =
    omega arith in
    record {
      word = elim c.if-begins_full.branch [
        | then-begins_full w ↦
            w.word-is
            ∙ (ap (λ (m : ℕ). bit_or c.loop-bit.word m)
            (w.flag_mask-word.ensures ∙ ap (λ (n : ℕ). 2 ^ n) bit)
            ∙ word_more c.args.dict.now c.args.group c.loop-bit.bit c.loop-bit.word true v.word
            w.if-begins_full.ensures)
        | else-begins_full w ↦
            w.word-is
            ∙ word_more c.args.dict.now c.args.group c.loop-bit.bit c.loop-bit.word false v.word
            w.if-begins_full.ensures
      ];
    }
