mod Applied
pub mod Elements
mod Examples
mod HalfRows
mod HullLists
mod Rows
pub mod StepHulls
pub mod Traces
pub mod WorkLaws
