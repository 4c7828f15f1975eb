pub mod Clearing
mod Uniting
