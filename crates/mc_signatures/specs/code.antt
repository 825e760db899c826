pub mod ByName
pub mod Callables
pub mod Keys
pub mod Rows
pub mod Definitions
pub mod Numbering
