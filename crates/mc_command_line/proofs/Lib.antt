pub mod Local
pub mod Looks
pub mod Rows
pub mod Sides
pub mod Turns
pub mod Uses
pub mod Whole
