pub mod Written
pub mod Plain
pub mod Rules
pub mod code
