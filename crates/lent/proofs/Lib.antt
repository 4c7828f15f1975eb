pub mod Cutting
pub mod Ordering
pub mod Accepting
