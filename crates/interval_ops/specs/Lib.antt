pub mod Choices
pub mod Decided
pub mod HullCounts
pub mod Hulls
pub mod Laws
pub mod Shapes
pub mod Spans
