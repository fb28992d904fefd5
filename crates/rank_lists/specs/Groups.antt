-- What a row ranks, and the rank that it gives, each as one number together with the type's name.
use Rattle.std.specs.Prelude.{ℕ, ◌+◌, ◌*◌, List, [], ◌∷◌}
use Rattle.record_files.specs.Rows.{Row}
use Rattle.rank_lists.specs.declared.keys.TheConstants.{NUMBERS, RANKS}
use Rattle.rank_lists.specs.Rows.{candidate_in, type_in, rank_in}

-- the bytes of a name as the digits of a number, the last one first
abbrev pub name_number : List ℕ → ℕ
name_number [] = 0
name_number (b ∷ bs) = name_number bs * 256 + b

-- a candidate together with a type: candidates are below 2^37
abbrev pub candidate_group : Row → ℕ
candidate_group row = name_number (type_in row) * NUMBERS + candidate_in row

-- a rank together with a type: ranks are below 2^27
abbrev pub rank_group : Row → ℕ
rank_group row = name_number (type_in row) * RANKS + rank_in row
