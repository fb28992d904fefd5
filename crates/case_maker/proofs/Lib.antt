-- words that are taken in turn
pub mod Taking
-- lists in which an entry stands once
pub mod Repeats
-- keys in order
pub mod Sorting
pub mod Ordering
-- what the candidates draw
pub mod Drawing
-- the made market
pub mod Making
pub mod Validity
