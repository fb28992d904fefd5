-- counts of holders over all programmes
pub mod Totals
-- numbers of holders among the first candidates
pub mod HolderCounts
-- what a placement shares with one that gives each candidate at least as much
pub mod Shared
-- the report of one stable placement is that of each
pub mod Reports
-- tests that compute whether a placement is stable
pub mod Checks
-- the market with three stable placements
pub mod Examples
