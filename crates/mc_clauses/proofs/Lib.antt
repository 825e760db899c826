mod Meanings
mod Views
mod Walks
mod Taking
mod Forms
mod Making
mod Disjunctions
mod Heads
