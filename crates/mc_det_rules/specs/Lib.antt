pub mod Main
pub mod code
