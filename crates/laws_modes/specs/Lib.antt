pub mod OrdersNamed
pub mod ChosenNodes
pub mod Declared
pub mod Regular
pub mod code
pub mod Waits
pub mod Reasons
