pub mod Page
pub mod Fields
