pub mod Reaching
pub mod Checks
pub mod Spanning
pub mod Certified
pub mod Returning
