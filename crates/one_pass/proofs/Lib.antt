pub mod Parities
pub mod Units
pub mod Taken
pub mod Written
pub mod Patterns
