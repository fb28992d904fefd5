-- What each word of a round's table holds: the claim number; the mark, as twice its number and one
-- more where it is held; a seat count for each programme; a cell for each turn; and the words of
-- flags, which have a flag for each programme.
use Rattle.std.specs.Prelude.{ℕ, ◌+◌, ◌-◌, ◌*◌, ◌/◌, ◌%◌, ◌==◌, Bool, true, false, List, ◌∷◌, ◌++◌, length, map, take, drop, replicate, slice_index}
use Rattle.market.specs.Dictatorships.{Dictatorship}
use Rattle.interleaving_core.specs.declared.parts.Cell.{Cell}
use Rattle.interleaving_core.specs.declared.parts.Cell.TheVariants.{Empty, Posted, Committed}
use Rattle.interleaving_core.specs.Flags.{flag_word_count, flag_group, first_flags}
use Rattle.interleaving_core.specs.Core.{View, Core, turn_count}
use Rattle.word_rule.specs.declared.layout.TheConstants.{CLAIM_WORD, MARK_WORD, FIRST_SEAT_WORD}

-- how many programmes there are
abbrev pub programme_count : Dictatorship → ℕ
programme_count d = length d.quota

-- the word of a programme's seat count
abbrev pub seat_word : ℕ → ℕ
seat_word p = FIRST_SEAT_WORD + p

-- the word of a turn's cell, behind the seat counts of so many programmes
abbrev pub cell_word : ℕ → ℕ → ℕ
cell_word programmes k = FIRST_SEAT_WORD + programmes + k

-- the word that has the flag of a programme, behind the cells of so many turns
abbrev pub flag_word : ℕ → ℕ → ℕ → ℕ
flag_word programmes turns p = cell_word programmes turns + flag_group p

-- how many words there are
abbrev pub word_count : Dictatorship → ℕ
word_count d = cell_word (programme_count d) (turn_count d) + flag_word_count (programme_count d)

-- whether the mark is held, by its word
abbrev pub is_held : ℕ → Bool
is_held mark = mark % 2 == 1

-- the mark's number, by its word
abbrev pub mark_number : ℕ → ℕ
mark_number mark = mark / 2

-- the word of a free mark with this number
abbrev pub free_mark : ℕ → ℕ
free_mark number = 2 * number

-- the word of a cell that is posted at place j
abbrev pub posted_at : ℕ → ℕ
posted_at j = 2 * j + 1

-- the word of a cell that is committed at place j
abbrev pub committed_at : ℕ → ℕ
committed_at j = 2 * j + 2

-- the cell of a word: by whether it is 0, by whether it is odd, and by its half
abbrev pub cell_by : Bool → Bool → ℕ → Cell
cell_by true odd half = Empty
cell_by false true half = Posted half
cell_by false false half = Committed (half - 1)

-- the cell that a word shows: 0 is empty, and others are posted or committed as above
abbrev pub cell_of : ℕ → Cell
cell_of word = cell_by (word == 0) (word % 2 == 1) (word / 2)

-- the core state that words show beside these views
abbrev pub core_of : Dictatorship → List ℕ → List View → Core
core_of d words views =
    record {
      claim_number = slice_index words CLAIM_WORD;
      mark_held = is_held (slice_index words MARK_WORD);
      mark_number = mark_number (slice_index words MARK_WORD);
      seats = take (programme_count d) (drop FIRST_SEAT_WORD words);
      cells = map cell_of (take (turn_count d) (drop (FIRST_SEAT_WORD + programme_count d) words));
      flags = drop (FIRST_SEAT_WORD + programme_count d + turn_count d) words;
      views = views;
    }

-- the words at the opening: nothing is drawn, the mark is free, the seat counts are the fills, each
-- cell is empty, and the flags of exactly the full programmes are raised
abbrev pub first_words : Dictatorship → List ℕ
first_words d = 0 ∷ free_mark 0 ∷ (d.fill ++ (replicate (turn_count d) 0 ++ first_flags d))
