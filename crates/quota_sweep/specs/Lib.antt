-- The definitions, in the order in which to read them.
-- what a sweep over the quotas of one programme gives
pub mod Sweeps
-- a market in which one further seat moves a chain of candidates
pub mod Examples
