pub mod Layout
pub mod Needed
