pub mod Untidy
pub mod Premises
pub mod Rules
pub mod code
