pub mod Legal
pub mod Books
