pub mod Halves
pub mod Hulls
pub mod Lanes
pub mod Laws
pub mod Meaning
pub mod Operands
pub mod PointLaws
pub mod Work
