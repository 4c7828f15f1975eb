-- What each return of the finder's functions shows, the finder after n steps, and that whatever the calls show is the list.
pub mod Calls
pub mod Stepping
pub mod Whole
