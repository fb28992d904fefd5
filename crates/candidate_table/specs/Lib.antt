-- what the rows of the file say, and what is wrong with them
pub mod Rows
-- the table
pub mod Table
-- how the table grows by a row
pub mod Growth
