-- what holds of a command that words give
pub mod Fitting
-- the line of the grammar that a first word has, and what the words behind it mean
mod Lines
