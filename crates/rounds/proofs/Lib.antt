mod Joining
pub mod Pooling
