-- The summary of a market and of what a run of the mechanism gave in it.
use Rattle.std.specs.Prelude.{ℕ, List, [], ◌∷◌, ◌++◌, codes, count_by, decimal, is_some, length, Option}
use Rattle.std.specs.List.{flat_map}
use Rattle.market.specs.Counting.{sum_below}
use Rattle.market.specs.Mechanism.{entry_count}
use Rattle.market.specs.Problems.{Problem, quota_of}
use Rattle.market.specs.declared.placement.Outcome.{Outcome}

-- how many candidates hold a programme
abbrev pub placed_count : List (Option ℕ) → ℕ
placed_count held = count_by is_some held

-- how many seats all programmes have
unfoldable pub seat_count : Problem → ℕ
seat_count m = sum_below (quota_of m) (length m.programmes)

-- a line: a word, a space, a number and an LF
abbrev pub count_line : List ℕ → ℕ → List ℕ
count_line word number = word ++ 32 ∷ decimal number ++ 10 ∷ []

-- the words of the lines, each with its number
abbrev pub summary_lines : Problem → Outcome → List (List ℕ × ℕ)
summary_lines m outcome =
    (codes "candidates", length m.lists)
    ∷ (codes "programmes", length m.programmes)
    ∷ (codes "types", m.types)
    ∷ (codes "entries", entry_count m)
    ∷ (codes "rounds", outcome.rounds)
    ∷ (codes "cuts", outcome.cuts)
    ∷ (codes "turns", outcome.turns)
    ∷ (codes "placed", placed_count outcome.placement)
    ∷ (codes "seats", seat_count m) ∷ []

-- the summary: these lines
unfoldable pub summary : Problem → Outcome → List ℕ
summary m outcome =
    flat_map (λ (line : List ℕ × ℕ). count_line line.0 line.1) (summary_lines m outcome)
