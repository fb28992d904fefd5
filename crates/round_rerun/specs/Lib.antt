-- The definitions. Which turns a placement runs stands in market.
-- the turns of one round
pub mod Runs
-- what the rounds keep
pub mod Kept
