pub mod Fronts
pub mod Overs
pub mod Parts
pub mod Views
