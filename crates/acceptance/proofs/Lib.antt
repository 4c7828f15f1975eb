-- What reading both shows, and the list of an accepted pattern's table.
pub mod Reading
