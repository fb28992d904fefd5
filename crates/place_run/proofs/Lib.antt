-- no fault of a table is that its file is too long
pub mod JudgedFiles
-- an answer that is made of what was read
pub mod Answering
-- the summary of a made market
pub mod Summaries
-- what files say that were read
pub mod Headline
-- the market of three tables, and what is printed of it
pub mod Markets
-- what an audit says of a placement
pub mod Verdicts
-- texts that grow by a row
pub mod RowTexts
-- a text that is written in two parts
pub mod WrittenTexts
-- texts that pass through a buffer
pub mod QueuedTexts
-- one programme's quota varied
pub mod Sweeps
-- the second placement, of the seats that registered candidates leave
pub mod Seconds
-- what a run leaves of a sink
pub mod Finishing
