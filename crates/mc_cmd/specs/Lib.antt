pub mod Codes
pub mod Messages
pub mod Ends
pub mod Outcome
pub mod Call
pub mod Laws
pub mod code
