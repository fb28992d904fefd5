-- the cuts of the first candidates
pub mod Cutting
