pub mod Rules
pub mod Walked
pub mod Items
