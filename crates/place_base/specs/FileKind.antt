-- The kinds of files.
use Rattle.std.specs.Prelude.{ℕ, List, codes}
use Rattle.place_base.specs.declared.fault.FileKind.{FileKind}
use Rattle.place_base.specs.declared.fault.FileKind.TheVariants.{Programmes, Candidates, Ranks, Placement, Registrations}

-- the word that stands for a file in a note
abbrev pub file_name : FileKind → List ℕ
file_name Programmes = codes "programmes"
file_name Candidates = codes "candidates"
file_name Ranks = codes "ranks"
file_name Placement = codes "placement"
file_name Registrations = codes "registrations"
