-- The definitions, in the order in which to read them.
-- how a result meets what is said of it
pub mod Meetings
-- why a file has no table, and why a run has no answer
pub mod Stops
-- what reading files came to
pub mod Files
-- what a file says, and what is said behind it
pub mod Says
-- the plan of a run: its files and what it says in the end
pub mod Plans
-- what a run leaves of a sink
pub mod Runs
-- the lines of notes
pub mod Lines
