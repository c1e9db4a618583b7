pub mod Sums
pub mod GroupLemmas
pub mod BlocksLemmas
pub mod FactorLemmas
pub mod CombineLemmas
