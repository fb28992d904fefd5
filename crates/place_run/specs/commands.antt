-- The answer of each command, and what is promised of it.
-- the placement of three files
pub mod Place
-- the base ranks of the same placement
pub mod Base
-- the reason of each list entry in the same placement
pub mod Reasons
-- what all stable placements share
pub mod Fixed
-- one programme's quota varied
pub mod Sweep
-- the second placement, of the seats that registered candidates leave
pub mod Second
-- the audit of a placement file beside three files
pub mod Audit
-- the summary of a market that is made from numbers
pub mod Make
