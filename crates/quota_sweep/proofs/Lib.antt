-- more seats take nothing from anybody
pub mod Widening
-- the rows of the first quotas
pub mod Rows
-- a market in which one further seat moves a chain of candidates
pub mod Examples
