pub mod Rank
pub mod Cases
