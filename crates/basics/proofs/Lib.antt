pub mod Basics
pub mod Decimals
