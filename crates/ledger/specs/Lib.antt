pub mod Acts
pub mod Rule
pub mod Values
pub mod Visits
