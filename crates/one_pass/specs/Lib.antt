pub mod Syndromes
pub mod Weights
pub mod Patterns
pub use Rattle.kernels.specs.Lists
