-- The definitions, in the order in which to read them.
-- what each word of the table holds
pub mod Layout
-- what each seat of the table knows
pub mod Views
-- what a seat's run-time copies say of its view
pub mod Copies
-- the one rule: words and views together are one sound core state
pub mod Rule
-- when a seat may make an event
pub mod Conditions
-- what each atomic step of a claimant tells
pub mod Claimant
-- what each atomic step of the mark's holder tells
pub mod Holder
-- a round and its seats, as clauses speak of them
pub mod Rounds
-- when the flag of a filled programme may be raised, and what that does
pub mod Raising
-- what the words of a round that is over show
pub mod Closing
