-- Why a file has no table, and why a run has no answer.
use Rattle.std.specs.Prelude.{Bool, true, false, IsErrOf, Result, Ok, Err}
use Rattle.place_base.specs.declared.fault.FaultKind.TheVariants.{FileTooLong}
use Rattle.place_base.specs.declared.fault.FileFault.{FileFault}
use Rattle.place_base.specs.declared.fault.FileKind.{FileKind}
use Rattle.record_files.specs.FirstFaults.{fault_at}
use Rattle.record_files.specs.declared.table_stop.TableStop.{TableStop}
use Rattle.record_files.specs.declared.table_stop.TableStop.TheVariants as table
use Rattle.run_frame.specs.declared.stop.FileStop.{FileStop}
use Rattle.run_frame.specs.declared.stop.FileStop.TheVariants.{Fault, ReadFault, Memory}
use Rattle.run_frame.specs.declared.stop.Stop.{Stop}
use Rattle.run_frame.specs.declared.stop.Stop.TheVariants.{Refused, File}

-- a read fault and want of memory are free: no bytes say them
abbrev pub is_free : FileStop → Bool
is_free (Fault found) = false
is_free ReadFault = true
is_free Memory = true

-- and so they are as stops of a run, of which a refusal is said
abbrev pub is_free_stop : {W : Type 0} → Stop W → Bool
is_free_stop (Refused refused) = false
is_free_stop (File stop) = is_free stop

-- the words were refused, for a fault of theirs
abbrev pub IsWordsStop : {T F W : Type 0} → (F → W) → Result T (Stop W) → Type 0
IsWordsStop {F = F} refusal result = (fault : F) × IsErrOf result (Refused (refusal fault))

-- the fault of a file of more than 2^30 bytes
abbrev pub too_long : FileKind → FileFault
too_long kind = fault_at kind 0 0 FileTooLong

-- a table's stop, among the causes of a file
abbrev pub stop_of : TableStop → FileStop
stop_of (table.Fault found) = Fault found
stop_of table.Memory = Memory

-- a table that was read, or its stop
abbrev pub table_said : {T : Type 0} → Result T TableStop → Result T FileStop
table_said (Ok read) = Ok read
table_said (Err stop) = Err (stop_of stop)
