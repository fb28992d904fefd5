-- The definitions, in the order in which to read them.
-- what may be said of a run of the desk: the promise of the top call
pub mod Runs
-- what the words come to, and which files are read for it
pub mod Says
-- what the placement says of a candidate
pub mod Seats
-- what each request is answered, by the history before it
pub mod Replies
-- what a desk prints once every request is answered
pub mod Reports
-- what the desk of one thread keeps
pub mod States
-- what each seat of the table knows
pub mod Clerks
-- the one rule of the table
pub mod Rule
-- what each atomic step tells
pub mod Steps
-- a desk and its clerks, as clauses speak of them
pub mod Desks
-- what the clerks of a desk leave
pub mod Crew
-- the words of the desk
pub mod Words
-- the limits of a desk in numbers
pub mod Limits
-- the number of each status, and its line on the notes
pub mod Statuses
