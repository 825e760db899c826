pub mod WrittenModes
pub mod code
pub mod MeantInsts
pub mod MeantModes
pub mod Signatures
