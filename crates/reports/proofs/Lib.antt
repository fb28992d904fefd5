-- the type of a programme that was read
pub mod Programmes
-- base ranks of the first candidates
pub mod Holders
-- the base rank among the ranks of the holders
pub mod WorstHolders
-- which reason an entry has
pub mod EntryTests
-- full entries of a stable placement
pub mod FullEntries
-- programmes that nobody holds
pub mod Unheld
