pub mod Heap
pub mod Parts
pub mod code
