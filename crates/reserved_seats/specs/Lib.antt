-- The definitions, in the order in which to read them.
-- offers: a row of the programmes file and a kind of its seats, and their indexes in a market
pub mod Offers
-- the fields that print an offer
pub mod Fields
-- how many seats are reserved, and for whom
pub mod Reservations
-- the expanded market, in which each programme stands with both kinds of seats
pub mod Expansion
-- who may hold what in it, and what stable placements give
pub mod Holders
-- small markets to follow by hand
pub mod Examples
