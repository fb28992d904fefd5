-- A shelf that never fails.
use Rattle.std.specs.Prelude.{ℕ, List, Option}
use Rattle.place_edges.specs.HeldFiles.{Entries}

-- the files, what is left of the current one, and how many bytes were given
pub record SureFiles : Type 0 where
  pub entries : Entries
  pub rest : Option (List ℕ)
  pub tally : ℕ
