pub mod IoTold
pub mod CallsTold
pub mod Bindings
pub mod Calling
pub mod Finding
pub mod Entering
pub mod Faulting
pub mod Bridging
