pub mod Written
pub mod Expanded
pub mod Rules
pub mod Table
pub mod Visibility
pub mod Held
pub mod code
