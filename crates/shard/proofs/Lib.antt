pub mod Visits
pub mod Entering
pub mod Joining
