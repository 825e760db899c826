pub mod Typing
pub mod Items
pub mod Judging
pub mod Laws
pub mod code
