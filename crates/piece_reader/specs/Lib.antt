-- where a file is cut, and the parts between the cuts
pub mod Parts
-- the stretches between cuts
pub mod Stretches
-- the part that has the header
pub mod Header
-- what is read of the parts, each by itself
pub mod Ahead
-- rows added to a table one after the other
pub mod Joined
