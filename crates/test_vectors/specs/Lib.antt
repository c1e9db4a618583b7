pub mod Products
pub mod Text
