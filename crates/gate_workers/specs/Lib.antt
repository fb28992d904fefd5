-- The definitions.
-- what a worker does to its seat
pub mod Workers
-- seats and their steps, as the tests speak of them
pub mod Seats
