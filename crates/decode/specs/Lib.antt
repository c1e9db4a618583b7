pub mod Syndrome
pub mod Decoding
pub mod DecodePlan
pub mod FewReads
