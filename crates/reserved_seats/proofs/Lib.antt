-- lists over offers: how they are made, and what stands in them
pub mod OfferedLists
pub mod Marking
pub mod Listing
-- the programmes of both kinds of seats
pub mod BothKinds
-- the parts of the expanded market, and that they are valid
pub mod Making
pub mod Validity
-- who may hold what, and who holds reserved seats
pub mod Acceptance
pub mod ReservedLast
