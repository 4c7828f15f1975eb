-- Laws of picks, and what each return of the call's functions shows.
pub mod Laws
pub mod Passes
pub mod Picking
