-- texts that are written one behind the other
pub mod Parts
-- the texts of lines
pub mod LineTexts
-- a table's fault stands on a line of its file
pub mod TableFaults
-- a file that was read is judged by its bytes
pub mod Judging
-- and its table is what the file says
pub mod JudgedTables
-- laws of plans
pub mod Plans
-- what reading files came to by a plan
pub mod Readings
-- what follows from how a run ends
pub mod Endings
