pub mod Views
pub mod Pendings
pub mod Makings
