-- what the rows of the file say, and what is wrong with them
pub mod Rows
-- the placement
pub mod Table
-- how it grows by a row
pub mod Growth
-- the text of a placement
pub mod Texts
-- the file read without other files
pub mod SeatLists
-- the requests of a registrations file
pub mod Requests
