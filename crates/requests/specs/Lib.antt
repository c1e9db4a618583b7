pub mod Between
pub mod Requests
pub mod Inspections
pub mod Visits
