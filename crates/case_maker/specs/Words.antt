-- The words of a seed, one after the other.
use Rattle.std.specs.Prelude.{ℕ, zero, suc, ◌+◌}
use Rattle.rand_pcg.specs.Lcg.{Lcg, started, increment_of}
use Rattle.rand_pcg.specs.Pcg.{multiplier_64, pcg32}

-- words, each under its number, which is 0 for the first
abbrev pub Words : Type 0
Words = ℕ → ℕ

-- a generator that has given so many words
unfoldable pub generator_after : ℕ → Lcg → Lcg
generator_after zero generator = generator
generator_after (suc n) generator = generator_after n (pcg32 generator).1

-- the words that a generator gives
unfoldable pub words_of : Lcg → Words
words_of generator n = (pcg32 (generator_after n generator)).0

-- the generator of a seed
unfoldable pub seeded : ℕ → Lcg
seeded seed = started 64 multiplier_64 seed (increment_of 64 0)

-- the words behind the first so many
abbrev pub words_behind : ℕ → Words → Words
words_behind count words n = words (count + n)
