pub mod Apart
pub mod Contours
mod Examples
mod Layers
mod Order
mod PathLaws
