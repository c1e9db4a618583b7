pub mod Joining
pub mod Pieces
