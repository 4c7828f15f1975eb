pub mod Picks
pub mod Picking
pub mod inner
