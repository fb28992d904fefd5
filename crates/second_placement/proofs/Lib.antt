-- seat after seat taken from the programmes, and list after list emptied
pub mod Lowering
-- the market of the seats left: it is one, and what is placed there fits beside what was kept
pub mod SecondMarket
-- the registrations that were read grow by a row
pub mod Registering
-- a market with a second placement to follow by hand
pub mod Examples
