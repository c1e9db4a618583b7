pub mod Answers
pub mod Drawn
pub mod Rule
pub mod Gathered
pub mod Worked
pub mod Made
pub mod Mended
pub mod Line
