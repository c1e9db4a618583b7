pub mod Exit
pub mod Margin
