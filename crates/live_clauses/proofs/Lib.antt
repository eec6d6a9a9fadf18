pub mod Again
pub mod Bits
mod BlockExamples
pub mod EqualityLaws
mod Examples
pub mod Joined
pub mod Keeping
pub mod Kept
pub mod MarkTurns
pub mod MeaningLaws
pub mod Needs
pub mod NextMarks
pub mod Numbering
pub mod Parts
pub mod Representatives
pub mod RootLaws
pub mod SlopeLaws
pub mod Stored
pub mod Theorems
pub mod ValueLaws
pub mod Walks
pub mod Whole
