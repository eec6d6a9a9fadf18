pub mod Beside
pub mod Bounds
pub mod ChangeLaws
pub mod Drawn
pub mod Evaluated
pub mod Groups
mod Examples
pub mod Layers
pub mod Leaves
pub mod Maps
pub mod MapperLaws
pub mod Opens
pub mod Steps
pub mod TopLaws
pub mod Traced
pub mod WorkLaws
