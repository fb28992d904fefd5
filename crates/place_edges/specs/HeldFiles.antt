-- Files in memory, by entries of which the first with a name counts.
use Rattle.std.specs.Prelude.{ℕ, ◌+◌, ◌-◌, ◌^◌, min, List, [], ◌∷◌, drop, Option, Some, None, if◌then◌else◌, slice_get, unwrap_or}
use Rattle.std.specs.Str.{bytes_eq}
use Rattle.place_edges.specs.Shelf.{Files}
use Rattle.place_edges.specs.declared.held.Place.{Place}
use Rattle.place_edges.specs.declared.held.Place.TheVariants.{Closed, Unknown, Inside}

-- names with the bytes added under them, the newest in front
abbrev pub Entries : Type 0
Entries = List (List ℕ × List ℕ)

-- the entries, and what is left of the file that is being read
pub record Held : Type 0 where
  pub entries : Entries
  pub rest : Option (List ℕ)

-- the bytes held under each name are those of the newest entry with this name
abbrev pub files_of : Entries → Files
files_of [] name = None
files_of (entry ∷ entries) name = if bytes_eq entry.0 name then Some entry.1 else files_of entries
    name

-- the same, with the empty file under every name that was not added
abbrev pub files_or_empty : Entries → Files
files_or_empty entries name = Some (unwrap_or (files_of entries name) [])

-- the bytes of an entry, none where there is no such entry
abbrev pub bytes_of : Option (List ℕ × List ℕ) → List ℕ
bytes_of None = []
bytes_of (Some entry) = entry.1

-- what is left of the current file
abbrev pub left_at : Entries → Place → Option (List ℕ)
left_at entries Closed = Some []
left_at entries Unknown = None
left_at entries (Inside file at) = Some (drop at (bytes_of (slice_get entries file)))

-- the same place where one more entry stands in front
abbrev pub place_behind_one_more : Place → Place
place_behind_one_more Closed = Closed
place_behind_one_more Unknown = Unknown
place_behind_one_more (Inside file at) = Inside (min (file + 1) (2 ^ 64 - 1)) at
