-- The definitions, in the order in which to read them.
-- what a market is: types, programmes, preference lists, turn orders, ranks; who is acceptable
pub mod Problems
-- placements, preference, blocking pairs, stable placements
pub mod Stability
-- base ranks: the worst rank among a programme's holders
pub mod BaseRanks
-- one placement compared with another, candidate by candidate
pub mod Comparisons
-- one serial dictatorship
pub mod Dictatorships
-- the mechanism: a dictatorship for each type, and the cuts from round to round
pub mod Mechanism
-- the dictatorship of a type over the numbers that its own programmes have among themselves
pub mod LocalNumbers
-- what each candidate has chosen in each type, kept in a table
pub mod Choices
-- which turns a round has to run again
pub mod Reruns
-- small markets to follow by hand
pub mod Examples
-- counts and sums
pub mod Counting
-- the tables that a market keeps beside its parts
pub mod Tables
-- lists that lie one after another
pub mod FlatLists
-- the lists of a type in turn order, which a market keeps
pub mod TypeLists
-- the two forms in which a dictatorship keeps its lists
pub mod DictLists
