pub mod Meaning
pub mod Shown
pub mod Refusals
pub mod Finding
pub mod Replies
