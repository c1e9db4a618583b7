pub mod Numbers
pub mod Names
pub mod Fields
pub mod Script
pub mod Text
pub mod Ranges
