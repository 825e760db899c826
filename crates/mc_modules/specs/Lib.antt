pub mod Files
pub mod Visible
pub mod Faults
pub mod Visibilities
pub mod Kept
pub mod code
pub mod Linked
pub mod Refused
