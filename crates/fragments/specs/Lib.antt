pub mod Record
pub mod Data
