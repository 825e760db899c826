pub mod Booleans
pub mod NameSetLaws
mod NameSetViews
pub mod Joining
