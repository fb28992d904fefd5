-- How a run ends, and what it leaves of a sink.
use Rattle.std.specs.Prelude.{◌≡◌, ◌≤◌, ◌<◌, ◌⊎◌, ℕ, ◌-◌, ◌^◌, List, [], Option, Some, Result, Ok, Err}
use Rattle.place_base.specs.declared.fault.FileKind.{FileKind}
use Rattle.place_edges.specs.Causes.{Rose}
use Rattle.place_edges.specs.Shelf.{Files, GaveMore, file_limit}
use Rattle.place_edges.specs.Sink.{Appended, AppendedPrefix}
use Rattle.run_frame.specs.Files.{AreHeld, AreTaken, Moment, Reads}
use Rattle.run_frame.specs.Plans.{Plan, files_read, said}
use Rattle.run_frame.specs.Stops.{too_long}
use Rattle.run_frame.specs.declared.stop.FileStop.TheVariants.{Fault, ReadFault, Memory}
use Rattle.run_frame.specs.declared.stop.Stop.{Stop}
use Rattle.run_frame.specs.declared.stop.Stop.TheVariants.{Refused, File}

-- The text of a program's answer, and the status of each end: where the text was written whole,
-- where there is a stop in place of an answer, and where a write failed.
pub record Endings (A W E : Type 0) : Type 0 where
  pub text : A → List ℕ
  pub done : A → E
  pub stopped : Stop W → E
  pub write_fault : E

-- An answer was written: whole, with its status and no put that failed, or a write failed, and a
-- prefix of its text was. Where there is a stop in its place, the sink is as it was.
abbrev pub IsFinished : {A W E K : Type 0} → Endings A W E → (K → Option (List ℕ)) → (K → ℕ)
    → Result A (Stop W) → E → K → K → Type 0
IsFinished ends written faults (Ok answer) status old new =
    ((status ≡ ends.done answer) × Appended (written old) (written new) (ends.text answer)
    × (faults new ≡ faults old))
    ⊎ ((status ≡ ends.write_fault) × AppendedPrefix (written old) (written new) (ends.text answer)
    × Rose (faults old) (faults new))
IsFinished ends written faults (Err stop) status old new =
    (status ≡ ends.stopped stop) × (new ≡ old)

-- the status and what was appended are those of what is said
abbrev pub IsDone : {A W E : Type 0} → Endings A W E → Result A (Stop W) → E → Option (List ℕ)
    → Option (List ℕ) → Type 0
IsDone ends (Ok answer) status old new =
    (status ≡ ends.done answer) × Appended old new (ends.text answer)
IsDone ends (Err stop) status old new = (status ≡ ends.stopped stop) × Appended old new []

-- All that is said over the bytes that were read is done, and the files that are read of them were
-- read once each; or memory was refused.
abbrev pub IsWhole : {A W E : Type 0} → Endings A W E → Option Files → (FileKind → List ℕ)
    → Plan A W → E → Option (List ℕ) → Option (List ℕ) → Moment → Moment → Type 0
IsWhole {A} {W} ends told names plan status old new before now =
    (reads : Reads) × AreHeld told names reads
    × ((status ≡ ends.stopped (File Memory))
    ⊎ (AreTaken (files_read plan reads) before.tally now.tally
    × (all : Result A (Stop W)) × (said plan reads ≡ Some all) × IsDone ends all status old new))

-- words are refused exactly where they give no command, and for that fault of theirs
pub record WordsCause {C F E : Type 0} (refusal : F → E) (command : Result C F) (status : E)
    : Type 0 where
  pub only : (fault : F) → status ≡ refusal fault → command ≡ Err fault
  pub always : (fault : F) → command ≡ Err fault → status ≡ refusal fault

-- Each refusal has its cause: words by their rules, a read fault and a write fault by the counts, a
-- file that is too long by the tally. The first value says how words with a fault are refused.
pub record HasStatusCause {A C F W E : Type 0} (refusal : F → W) (ends : Endings A W E)
    (command : Result C F) (status : E) (before now : Moment) (out_before out_now : ℕ)
    : Type 0 where
  pub words : WordsCause (λ fault. ends.stopped (Refused (refusal fault))) command status
  pub read : status ≡ ends.stopped (File ReadFault) → Rose before.faults now.faults
  pub long : (kind : FileKind) → status ≡ ends.stopped (File (Fault (too_long kind)))
      → GaveMore before.tally now.tally file_limit
  pub write : status ≡ ends.write_fault → Rose out_before out_now

-- Where a run ends with its text no failed read or write was passed over: the counts of faults of
-- the shelf and of the sink stand still.
abbrev pub IsQuiet : {A W E : Type 0} → Endings A W E → E → Moment → Moment → ℕ → ℕ → Type 0
IsQuiet {A} ends status before now out_before out_now =
    (answer : A) → status ≡ ends.done answer
    → (now.faults ≡ before.faults) × (out_now ≡ out_before)

-- what was written before stays in front
abbrev pub StaysInFront : Option (List ℕ) → Option (List ℕ) → Type 0
StaysInFront old new = (bytes : List ℕ) × Appended old new bytes

-- What was written before stays in front, and where something was refused before the first byte of
-- a text the sink is as it was. No count falls.
pub record LeavesSink {S E K : Type 0} (stopped : S → E) (written : K → Option (List ℕ))
    (faults : K → ℕ) (status : E) (old new : K) : Type 0 where
  pub kept : StaysInFront (written old) (written new)
  pub untouched : (stop : S) → status ≡ stopped stop → new ≡ old
  pub later : faults old ≤ faults new

-- a count is the same at every moment, and can still rise
abbrev pub IsConstant : {S : Type 0} → (S → ℕ) → Type 0
IsConstant {S} count = (n : ℕ) × (n < 2 ^ 64 - 1) × ((state : S) → count state ≡ n)
