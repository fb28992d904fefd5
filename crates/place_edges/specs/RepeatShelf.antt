-- A shelf that holds the same byte many times.
use Rattle.std.specs.Prelude.{ℕ, List, replicate}

-- the byte, how often it stands in the file and in the rest of it, and how many bytes were given
pub record RepeatedFile : Type 0 where
  pub byte : ℕ
  pub size : ℕ
  pub left : ℕ
  pub tally : ℕ

-- so many copies of a byte
abbrev pub repeated : ℕ → ℕ → List ℕ
repeated byte count = replicate count byte
