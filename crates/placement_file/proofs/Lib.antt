pub mod FoundRows
pub mod Growing
pub mod PlacementTexts
pub mod SeatsGrowing
