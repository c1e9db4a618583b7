pub mod Equations
pub mod Places
pub mod Chosen
pub mod Least
pub mod Planned
pub mod FewReads
