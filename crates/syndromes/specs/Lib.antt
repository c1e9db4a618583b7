pub mod Syndromes
pub mod Formulas
pub mod Plans
pub use Rattle.kernels.specs.Lists
