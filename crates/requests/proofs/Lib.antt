pub mod Between
pub mod Requests
