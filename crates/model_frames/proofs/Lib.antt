pub mod Closed
mod ContourExamples
mod ContourLeast
mod ContourWork
mod Depths
pub mod DescentLaws
mod Examples
pub mod Frames
pub mod GridLaws
mod GridWork
mod LeastWork
pub mod MeshLaws
mod MeshesAfter
pub mod SoundTexts
mod Shades
pub mod WorkLaws
