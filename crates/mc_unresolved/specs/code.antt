pub mod Tasks
pub mod Picked
