pub mod Io
pub mod Calls
pub mod Entry
pub mod Listed
