pub mod Answered
pub mod ArcLaws
pub mod Bounds
pub mod Decisions
pub mod DegreeLaws
pub mod EdgeLaws
pub mod Exact
pub mod FaceRuns
pub mod FanLaws
pub mod FaultLaws
pub mod GatherLaws
pub mod Giving
pub mod HeaderRuns
pub mod HeaderSteps
pub mod Lists
pub mod Passing
pub mod Places
pub mod PlyCases
mod ReadingExamples
mod ReportExamples
pub mod Sorting
pub mod Theorems
mod VerdictExamples
pub mod VerdictLaws
pub mod VertexRuns
pub mod Walks
pub mod Worked
