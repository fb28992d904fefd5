-- The definitions, in the order in which to read them.
-- the limits in numbers
pub mod Limits
-- words of flags
pub mod Flags
-- a core state: what the shared words hold and what each worker knows
pub mod Core
-- the eleven events: when each is allowed, what it leads to and what it tells
pub mod Events
-- one event after another
pub mod Runs
-- when a core state is sound
pub mod Sound
-- what the machine keeps in memory
pub mod Machines
