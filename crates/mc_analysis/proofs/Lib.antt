pub mod Flat
pub mod Parts
pub mod Coming
pub mod Untidying
pub mod Asking
pub mod Committing
