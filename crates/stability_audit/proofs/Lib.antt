-- when a programme would take a candidate
pub mod Rooms
-- the first candidate at whom a test answers true
pub mod Firsts
-- programmes that a search of a list finds
pub mod Listed
-- a verdict and stability
pub mod Stable
-- the look through a candidate's list
pub mod Looking
-- the first verdict by relations is the first by tests
pub mod FirstSaid
