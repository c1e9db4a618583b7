pub mod Words
pub mod Slots
pub mod CopiedPieces
pub mod Lendings
pub mod RepairSteps
pub mod Running
pub mod LostCounts
pub mod WholeRun
