pub mod Cuts
pub mod Digits
pub mod FieldCuts
pub mod FirstFaultLemmas
pub mod Keys
pub mod Headers
pub mod RowTexts
