-- The definitions, in the order in which to read them.
-- the words of a seed, one after the other
pub mod Words
-- what one candidate draws
pub mod Draws
-- keys in order
pub mod Turns
-- the market of a seed
pub mod MadeMarkets
-- a key and its candidate as one number
pub mod Packed
-- what the first candidates have drawn
pub mod Drawn
