mod Examples
pub mod Headers
pub mod Lines
pub mod Meshes
pub mod Numbers
pub mod Texts
