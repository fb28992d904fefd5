-- The definitions, in the order in which to read them.
-- the market of the seats left once some of those who were placed have registered
pub mod SeatsLeft
-- a market with a second placement to follow by hand
pub mod Examples
-- a registrations file beside the candidates, and what is wrong with it
pub mod Registrations
-- how the registrations that were read grow by a row
pub mod Growth
