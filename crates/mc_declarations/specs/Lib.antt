pub mod Declarations
pub mod Made
pub mod Proper
pub mod code
