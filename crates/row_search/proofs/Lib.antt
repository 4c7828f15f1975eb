pub mod Opening
pub mod Counting
