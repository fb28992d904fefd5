pub mod FreeSeats
pub mod CutCandidates
pub mod Holders
pub mod Stable
pub mod Widening
pub mod Worst
pub mod Exchange
