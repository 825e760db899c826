pub mod Pendings
pub mod Written
