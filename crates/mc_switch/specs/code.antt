pub mod Labels
pub mod Choices
pub mod Groups
pub mod Grouping
pub mod Ends
pub mod Parts
pub mod Forms
