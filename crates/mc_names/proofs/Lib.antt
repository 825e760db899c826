mod Chosen
mod Dotted
mod Listed
mod Modules
mod Parts
pub mod Places
pub mod Same
mod Sole
mod Uses
