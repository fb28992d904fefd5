-- The definitions: when each call may be made, and what it does.
pub mod Claimant
