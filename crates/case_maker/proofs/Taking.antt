-- Words that are taken in turn.
use Rattle.std.proofs.Common.{◌≡◌, ℕ, zero, suc, ◌+◌, refl, sym, ap, ◌∙◌, arith, suc-add, zero-add}
use mathlib.Core.Path.{fun_ext}
use Rattle.rand_pcg.specs.Lcg.{Lcg, started, increment_of}
use Rattle.rand_pcg.specs.Pcg.{multiplier_64, pcg32}
use Rattle.case_maker.specs.Words.{generator_after, seeded, words_of, words_behind}

-- the generator of a seed, as it is begun
pub seeded-is : (seed : ℕ) → started 64 multiplier_64 seed (increment_of 64 0) ≡ seeded seed
unfolding seeded
seeded-is seed = refl

-- after no word the generator is the same
pub after_none : (g : Lcg) → generator_after 0 g ≡ g
unfolding generator_after
after_none g = refl

-- words taken behind others
pub after_after : (m n : ℕ) (g : Lcg)
    → generator_after m (generator_after n g) ≡ generator_after (n + m) g
unfolding generator_after
after_after m zero g = ap (λ k. generator_after k g) (sym (zero-add m))
after_after m (suc n) g =
    after_after m n (pcg32 g).1 ∙ ap (λ k. generator_after k g) (sym (suc-add n m))

after_one : (g : Lcg) → generator_after 1 g ≡ (pcg32 g).1
unfolding generator_after
after_one g = refl

word_after : (n k : ℕ) (g : Lcg) → words_of (generator_after n g) k ≡ words_of g (n + k)
unfolding words_of
word_after n k g = ap (λ h. (pcg32 h).0) (after_after k n g)

-- the words that are left
pub words_of-after : (n : ℕ) (g : Lcg) → words_of (generator_after n g)
    ≡ words_behind n (words_of g)
words_of-after n g = fun_ext (λ k. word_after n k g)

word-next : (g : Lcg) → (pcg32 g).0 ≡ words_of g 0
unfolding words_of generator_after
word-next g = refl

-- a word that is taken behind n others
pub taken-word : (n : ℕ) (start g h : Lcg) (word : ℕ) → g ≡ generator_after n start
    → (word, h) ≡ pcg32 g → word ≡ words_of start n
taken-word n start g h word at step =
    ap (λ p. p.0) step ∙ word-next g ∙ ap (λ k. words_of k 0) at ∙ word_after n 0 start
    ∙ (let same : n + 0 ≡ n = omega arith in ap (words_of start) same)

-- and the generator behind it
pub taken-rest : (n : ℕ) (start g h : Lcg) (word : ℕ) → g ≡ generator_after n start
    → (word, h) ≡ pcg32 g → h ≡ generator_after (n + 1) start
taken-rest n start g h word at step =
    ap (λ p. p.1) step ∙ sym (after_one g) ∙ ap (generator_after 1) at ∙ after_after 1 n start
