pub mod Finding
pub mod Growing
pub mod ListCodes
pub mod PreferenceLists
