pub mod Hash
pub mod OneMap
