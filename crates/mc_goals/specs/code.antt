pub mod Numbering
pub mod Naming
pub mod Meeting
pub mod Outside
