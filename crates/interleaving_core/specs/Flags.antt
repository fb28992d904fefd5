-- Words of flags: a word has the flags of `FLAGS_PER_WORD` programmes, one a bit.
use Rattle.std.specs.Prelude.{ℕ, zero, suc, ◌+◌, ◌-◌, ◌*◌, ◌/◌, ◌%◌, ◌^◌, ◌==◌, ◌&&◌, Bool, true, false, List, length, map, nat_lt, nat_le, slice_index}
use Rattle.std.specs.List.{range_with_len}
use Rattle.std.specs.Int.{bit_at}
use Rattle.std.specs.Int.RustNames.{bit_or}
use Rattle.market.specs.Dictatorships.{Dictatorship}
use Rattle.interleaving_core.specs.declared.limits.TheConstants.{FLAGS_PER_WORD}

-- how many words have a flag for each of so many programmes
abbrev pub flag_word_count : ℕ → ℕ
flag_word_count programmes = (programmes + (FLAGS_PER_WORD - 1)) / FLAGS_PER_WORD

-- which of these words has the flag of a programme
abbrev pub flag_group : ℕ → ℕ
flag_group p = p / FLAGS_PER_WORD

-- the bit of that word which is the programme's flag
abbrev pub flag_bit : ℕ → ℕ
flag_bit p = p % FLAGS_PER_WORD

-- whether the flag of a programme is raised in the word that has it
abbrev pub is_raised_in : ℕ → ℕ → Bool
is_raised_in word p = bit_at word (flag_bit p) == 1

-- the word with the flag of a programme raised too
abbrev pub with_flag : ℕ → ℕ → ℕ
with_flag word p = bit_or word (2 ^ flag_bit p)

-- whether a programme is full before the first turn
abbrev pub begins_full : Dictatorship → ℕ → Bool
begins_full d p =
    nat_lt p (length d.quota) && nat_le (slice_index d.quota p) (slice_index d.fill p)

-- the same for the programme at a bit of a word of flags
abbrev pub begins_full_at : Dictatorship → ℕ → ℕ → Bool
begins_full_at d group b = begins_full d (FLAGS_PER_WORD * group + b)

-- the word with bit n set too, or as it was
abbrev pub with_bit_if : Bool → ℕ → ℕ → ℕ
with_bit_if true word n = bit_or word (2 ^ n)
with_bit_if false word n = word

-- the word whose first n bits are set where these say so, and no other bit is
unfoldable pub word_of : (ℕ → Bool) → ℕ → ℕ
word_of f zero = 0
word_of f (suc n) = with_bit_if (f n) (word_of f n) n

-- the word of flags that has those of a group of programmes, before the first turn
abbrev pub first_flag_word : Dictatorship → ℕ → ℕ
first_flag_word d group = word_of (begins_full_at d group) FLAGS_PER_WORD

-- the words of flags before the first turn: the flags of exactly the full programmes are raised
abbrev pub first_flags : Dictatorship → List ℕ
first_flags d = map (first_flag_word d) (range_with_len 0 (flag_word_count (length d.quota)))
