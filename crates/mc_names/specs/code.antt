pub mod Chosen
pub mod Index
pub mod Kept
pub mod Searched
