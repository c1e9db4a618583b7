pub mod Terms
pub mod Made
pub mod Taken
