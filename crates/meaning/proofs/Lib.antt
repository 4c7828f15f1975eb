pub mod Tree
pub mod Table
pub mod Shown
pub mod Run
pub mod Finding
pub mod Bounds
pub mod Replies
