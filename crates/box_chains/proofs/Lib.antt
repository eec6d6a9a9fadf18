pub mod BoxLaws
pub mod ChainLaws
pub mod Examples
pub mod HalfLaws
pub mod Joined
pub mod Lanes
pub mod LawProofs
pub mod NewLaws
pub mod NewPaths
pub mod Paths
pub mod Placed
mod RedrawnExamples
pub mod RedrawnLaws
pub mod Seen
mod SumExamples
pub mod SumLaws
pub mod TallyLaws
pub mod TestedLaws
pub mod Theorems
pub mod Traced
pub mod ValueLaws
pub mod WorkLaws
