pub mod Growing
pub mod Naming
pub mod Fits
pub mod Views
