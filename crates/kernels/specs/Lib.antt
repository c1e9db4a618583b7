pub mod Lists
pub mod Parities
pub mod Doublings
pub mod Tables
