pub mod Seats
pub mod Listed
pub mod Looked
