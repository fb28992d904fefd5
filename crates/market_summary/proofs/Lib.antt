-- sums that are few enough to be counted
pub mod Sums
-- lines that were appended one behind the other
pub mod Lines
