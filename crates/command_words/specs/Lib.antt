-- the grammar, and what a list of words means
pub mod Words
-- the code's table of commands, as lines of the grammar
pub mod Forms
