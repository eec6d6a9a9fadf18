pub mod Choices
pub mod Reached
pub mod DualRows
pub mod ShaderLaws
pub mod Sums
pub mod Kept
pub mod Lit
pub mod Visits
pub mod Held
pub mod Work
pub mod Rows
pub mod TopSamples
pub mod Waiting
pub mod Pictures
pub mod Bounds
mod Examples
