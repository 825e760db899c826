pub mod Branches
pub mod Conditions
pub mod Examples
pub mod Helds
pub mod Pieces
pub mod Stateless
pub mod Steps
