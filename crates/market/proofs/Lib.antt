-- lists, counts
pub mod Firsts
pub mod Counts
pub mod Copies
-- a valid problem
pub mod Valid
-- one dictatorship
pub mod Turns
pub mod Seats
pub mod Tallies
-- the mechanism
pub mod Tentatives
pub mod Rounds
pub mod Plain
-- dictatorships over local numbers
pub mod Dicts
pub mod Locals
-- cuts and reruns
pub mod Cutting
pub mod Reruns
pub mod Replays
-- a market with one quota changed
pub mod Quotas
-- what a market keeps
pub mod Tables
pub mod Members
pub mod Between
pub mod Below
pub mod TurnLists
pub mod Coded
-- problems that are written out
pub mod Computes
pub mod Checks
