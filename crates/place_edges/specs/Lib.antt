-- The definitions, in the order in which to read them.
-- a count of faults, and what may be said of an answer by it
pub mod Causes
-- what a shelf holds, and what its calls do
pub mod Shelf
-- what a sink got
pub mod Sink
-- what the tally says of a file that was read whole
pub mod Whole
-- files in memory, by entries of which the first with a name counts
pub mod HeldFiles
-- what a shelf or a sink in memory was told
pub mod Failures
-- a shelf in memory
pub mod MemShelf
-- a sink in memory
pub mod MemSink
-- a shelf that never fails
pub mod SureShelf
-- a shelf that holds the same byte many times
pub mod RepeatShelf
-- the files of the system
pub mod RealShelf
