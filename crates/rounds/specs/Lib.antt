pub mod Errands
pub mod Halts
pub mod Pools
pub mod Rounds
