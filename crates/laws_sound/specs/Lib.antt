pub mod BuiltinLaws
pub mod IoLaws
pub mod Soundness
pub mod code
