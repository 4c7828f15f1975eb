-- The laws of gathering leaves.
pub mod Gathering
