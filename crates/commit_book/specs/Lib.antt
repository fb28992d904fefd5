-- The definitions: when each call may be made, and what it does.
-- the six calls of the mark's holder
pub mod Holder
-- the call that takes, commits and releases
pub mod Prefix
