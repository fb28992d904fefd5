-- The definitions. What the cuts of a round are, and which turn they change first, stands in
-- market.
-- what the cuts of a round have touched, and who is marked
pub mod Touches
