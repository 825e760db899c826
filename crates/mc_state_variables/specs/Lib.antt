pub mod Updates
pub mod Versions
pub mod Numbered
pub mod code
