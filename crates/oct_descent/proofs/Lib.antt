pub mod Added
pub mod AfterBounds
mod AfterExamples
pub mod AfterLooks
pub mod AfterOld
pub mod AfterPaid
pub mod AfterWork
pub mod Before
pub mod Blocks
pub mod Bounds
pub mod Bricks
mod CellExamples
pub mod Corners
pub mod Covered
mod Examples
pub mod GapLaws
pub mod GridLaws
pub mod Halves
pub mod Kept
pub mod Listed
pub mod Looks
pub mod Members
pub mod NewCells
pub mod Reached
pub mod Sizes
pub mod TableLaws
pub mod Takes
pub mod Together
pub mod Turns
pub mod WayLaws
pub mod WayProofs
pub mod Whole
