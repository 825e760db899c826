pub mod Laws
pub mod Allowing
pub mod Raising
pub mod Stacks
pub mod Calling
pub mod Waiting
