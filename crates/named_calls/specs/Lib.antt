pub mod Asked
pub mod Taken
