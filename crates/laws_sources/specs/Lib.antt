pub mod WellWritten
pub mod Tested
pub mod Sources
pub mod code
pub mod ReadValues
pub mod SourceValues
