pub mod Waiting
pub mod Parts
pub mod Sleeping
pub mod Alike
pub mod Judging
pub mod Making
pub mod Frames
pub mod Steps
