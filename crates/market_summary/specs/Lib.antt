-- The definitions.
-- the lines of a summary
pub mod Summaries
