-- A shelf in memory.
use Rattle.std.specs.Prelude.{ℕ, ◌⊎◌, List, Option, IsNone, Contains}
use Rattle.place_edges.specs.HeldFiles.{Entries, files_of}

-- the files, what is left of the current one and how many bytes were given; the numbers of the
-- calls that are to fail, and how many calls and faults there were
pub record MemoryShelf : Type 0 where
  pub entries : Entries
  pub rest : Option (List ℕ)
  pub tally : ℕ
  pub failing : List ℕ
  pub calls : ℕ
  pub faults : ℕ

-- an open with this number fails: it is told to, or the name is not held
abbrev pub FailsToOpen : MemoryShelf → ℕ → List ℕ → Type 0
FailsToOpen shelf call name = Contains shelf.failing call ⊎ IsNone (files_of shelf.entries name)
