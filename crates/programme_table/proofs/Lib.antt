pub mod Bars
pub mod FirstAppearances
pub mod Growing
