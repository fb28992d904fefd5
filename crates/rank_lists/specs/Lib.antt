-- what the rows of the file say, and what is wrong with them
pub mod Rows
-- the turn orders and ranks
pub mod Table
-- what a row ranks, and the rank that it gives, each with the type as one number
pub mod Groups
-- what the rows say, gathered row by row
pub mod Growth
-- numbers with their places behind them
pub mod Placed
-- numbers that stand twice
pub mod Repeats
-- the first row that repeats an earlier one
pub mod Duplicates
-- turn orders sorted from given ranks
pub mod Turns
-- a file without a fault whose types and candidates are known
pub mod Clean
