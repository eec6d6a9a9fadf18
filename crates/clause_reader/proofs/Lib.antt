mod LineExamples
pub mod LineLemmas
pub mod LineSplits
pub mod LineSteps
pub mod LineWalk
pub mod OpLemmas
pub mod ReadBack
pub mod ReadModels
mod ReadingExamples
pub mod ReasonLemmas
pub mod Runs
pub mod Said
pub mod Scans
pub mod TokenLemmas
pub mod WriterLemmas
mod WritingExamples
mod WrittenExamples
pub mod WrittenLemmas
pub mod WrittenTokens
