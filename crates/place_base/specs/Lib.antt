-- the words of the files
pub mod FileKind
-- the numbers and names of the faults
pub mod FaultKind
-- the names of score types
pub mod TypeName
