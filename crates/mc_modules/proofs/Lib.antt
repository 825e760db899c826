mod Blamed
mod Counts
mod Found
mod ItemLists
mod Kept
mod ModulesSeen
pub mod Numbers
pub mod Tables
mod FileLaws
mod Places
mod Puts
mod Starts
