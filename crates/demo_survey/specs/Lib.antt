pub mod Survey
pub mod Text
