-- The definitions, in the order in which to read them.
-- what a verdict says
pub mod Verdicts
-- what the search for a blocking pair looks at
pub mod Entries
-- the verdict on a placement, as the first of all that is said of it
pub mod FirstVerdicts
