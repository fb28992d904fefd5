-- The definitions, in the order in which to read them.
-- for each programme its base rank and its number of holders
pub mod BaseTables
-- why a list entry is held or not
pub mod Reasons
-- what is known of an entry whose programme is full
pub mod FullEntries
