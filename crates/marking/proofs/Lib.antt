-- The laws of marking lines.
pub mod Asking
pub mod Marking
pub mod SoundRow
pub mod Passing
