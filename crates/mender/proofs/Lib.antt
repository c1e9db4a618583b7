pub mod Counts
pub mod Moves
pub mod Judged
pub mod Answering
pub mod Working
pub mod Made
pub mod Mended
