-- The definitions, in the order in which to read them.
-- what two placements share, and who holds a programme in one of them alone
pub mod Shared
-- what a placement leaves and fills, and what all stable placements do
pub mod Reports
-- a market with three stable placements
pub mod Examples
