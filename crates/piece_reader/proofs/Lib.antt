pub mod LineCuts
pub mod LineStarts
pub mod PartRows
pub mod Stretches
pub mod DataRows
pub mod ReadingAhead
pub mod CleanParts
pub mod Joining
