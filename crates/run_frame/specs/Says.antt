-- What a file says, and what is said behind it.
use Rattle.std.specs.Prelude.{ℕ, List, [], ◌∷◌, nat_lt, length, if◌then◌else◌, Option, Some, None, Result, Ok, Err}
use Rattle.place_base.specs.declared.fault.FileFault.{FileFault}
use Rattle.place_base.specs.declared.fault.FileKind.{FileKind}
use Rattle.place_edges.specs.Shelf.{file_limit}
use Rattle.run_frame.specs.Stops.{too_long}
use Rattle.run_frame.specs.declared.stop.FileStop.{FileStop}
use Rattle.run_frame.specs.declared.stop.FileStop.TheVariants.{Fault}
use Rattle.run_frame.specs.declared.stop.Stop.{Stop}
use Rattle.run_frame.specs.declared.stop.Stop.TheVariants.{File}

-- the fault, or the table where there is none
abbrev pub fault_or : {T : Type 0} → Option FileFault → T → Result T FileStop
fault_or (Some found) table = Err (Fault found)
fault_or None table = Ok table

-- what a file says by its first fault and its table: it may also be too long, which comes first
abbrev pub judged : {T : Type 0} → FileKind → Option FileFault → T → List ℕ → Result T FileStop
judged kind found table bytes =
    if nat_lt file_limit (length bytes) then Err (Fault (too_long kind)) else fault_or found table

-- go on with what a file says
abbrev pub behind : {T U W : Type 0} → Result T FileStop → (T → Option (Result U (Stop W)))
    → Option (Result U (Stop W))
behind (Err stop) next = Some (Err (File stop))
behind (Ok said) next = next said

-- open a file, judge it, and go on; nothing is said where it is not held
abbrev pub opened : {T U W : Type 0} → Option (List ℕ) → (List ℕ → Result T FileStop)
    → (T → Option (Result U (Stop W))) → Option (Result U (Stop W))
opened None judge next = None
opened (Some bytes) judge next = behind (judge bytes) next

-- no file is read behind one that has a fault
abbrev pub read_behind : {T : Type 0} → Result T FileStop → (T → List (List ℕ)) → List (List ℕ)
read_behind (Err stop) next = []
read_behind (Ok said) next = next said

-- the files that are read so: each is read once, in this order
abbrev pub read_from : {T : Type 0} → Option (List ℕ) → (List ℕ → Result T FileStop)
    → (T → List (List ℕ)) → List (List ℕ)
read_from None judge next = []
read_from (Some bytes) judge next = bytes ∷ read_behind (judge bytes) next
