-- What one candidate draws. The words begin with the candidate's own.
use Rattle.std.specs.Prelude.{ℕ, ◌+◌, ◌%◌, min, not, ◌==◌, List, [], ◌∷◌, filter, map, if◌then◌else◌, Option, Some, None}
use Rattle.std.specs.List.{range_with_len}
use Rattle.case_maker.specs.Words.{Words}

-- how many entries are drawn among so many programmes, fewer than 25: the first word says it
abbrev pub draw_count : ℕ → Words → ℕ
draw_count programmes words = min programmes (words 0 % 25)

-- the entries that the words behind it give
abbrev pub drawn_entries : ℕ → Words → List ℕ
drawn_entries programmes words =
    map (λ n. words (1 + n) % programmes) (range_with_len 0 (draw_count programmes words))

-- a list of which each entry is kept where it stands first
abbrev pub without_repeats : List ℕ → List ℕ
without_repeats [] = []
without_repeats (x ∷ xs) = x ∷ filter (λ y. not (y == x)) (without_repeats xs)

-- the preference list
abbrev pub drawn_list : ℕ → Words → List ℕ
drawn_list programmes words = without_repeats (drawn_entries programmes words)

-- a key with its candidate
abbrev pub Key : Type 0
Key = ℕ × ℕ

-- the key that a word gives a candidate in a type: the word itself; one word in eight gives no rank
abbrev pub word_key : ℕ → ℕ → Option Key
word_key word candidate = if word % 8 == 0 then None else Some (word, candidate)

-- how many words come before those of the types
abbrev pub list_words : ℕ → Words → ℕ
list_words programmes words = 1 + draw_count programmes words

-- the key in a type
abbrev pub drawn_key : ℕ → Words → ℕ → ℕ → Option Key
drawn_key programmes words kind candidate =
    word_key (words (list_words programmes words + kind)) candidate

-- how many words are drawn in all
abbrev pub drawn_word_count : ℕ → ℕ → Words → ℕ
drawn_word_count programmes types words = list_words programmes words + types
