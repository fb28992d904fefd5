-- Keys of rows that no two rows of a file share, each with its line.
use Rattle.std.specs.Prelude.{ℕ, List, nat_eq, map, Option}
use Rattle.std.specs.Map.{lookup}
use Rattle.record_files.specs.Rows.{Row}

-- the key of a row, with its line
abbrev pub with_line : (Row → ℕ) → Row → ℕ × ℕ
with_line key row = (key row, row.0)

-- the line of a key
abbrev pub line_of : List (ℕ × ℕ) → ℕ → Option ℕ
line_of keys key = lookup (nat_eq key) keys

-- the keys without their lines
abbrev pub keys_of : List (ℕ × ℕ) → List ℕ
keys_of keys = map (λ key. key.0) keys
