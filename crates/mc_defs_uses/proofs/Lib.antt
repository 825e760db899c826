mod Steps
mod Views
pub mod Laws
mod AbstractTypes
