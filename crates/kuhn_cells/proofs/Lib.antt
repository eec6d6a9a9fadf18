pub mod ArrangementLaws
pub mod CellLaws
pub mod Checks
pub mod EdgeLaws
mod Examples
pub mod FaceLaws
pub mod OrderLaws
pub mod RingLaws
pub mod VertexLaws
