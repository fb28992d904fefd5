-- What is wrong with a file.
use Rattle.std.specs.Prelude.{ℕ, List, codes}
use Rattle.place_base.specs.declared.fault.FaultKind.{FaultKind}
use Rattle.place_base.specs.declared.fault.FaultKind.TheVariants.{Header, FieldCount, NotNumber, OutOfRange, BadTypeName, Duplicate, UnknownProgramme, ListTooLong, TooManyRows, LineTooLong, FileTooLong, UnknownCandidate, BadSeat}

-- the number of a kind of fault
abbrev pub fault_number : FaultKind → ℕ
fault_number Header = 1
fault_number FieldCount = 2
fault_number NotNumber = 3
fault_number OutOfRange = 4
fault_number BadTypeName = 5
fault_number Duplicate = 6
fault_number UnknownProgramme = 7
fault_number ListTooLong = 8
fault_number TooManyRows = 9
fault_number LineTooLong = 10
fault_number FileTooLong = 11
fault_number UnknownCandidate = 12
fault_number BadSeat = 13

-- the name of a kind of fault
abbrev pub fault_name : FaultKind → List ℕ
fault_name Header = codes "Header"
fault_name FieldCount = codes "FieldCount"
fault_name NotNumber = codes "NotNumber"
fault_name OutOfRange = codes "OutOfRange"
fault_name BadTypeName = codes "BadTypeName"
fault_name Duplicate = codes "Duplicate"
fault_name UnknownProgramme = codes "UnknownProgramme"
fault_name ListTooLong = codes "ListTooLong"
fault_name TooManyRows = codes "TooManyRows"
fault_name LineTooLong = codes "LineTooLong"
fault_name FileTooLong = codes "FileTooLong"
fault_name UnknownCandidate = codes "UnknownCandidate"
fault_name BadSeat = codes "BadSeat"
