pub mod Lists
pub mod Moves
pub mod Opening
pub mod Values
pub mod Listing
