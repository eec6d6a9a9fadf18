mod Examples
mod ShapeExamples
pub mod Bits
pub mod EdgeLaws
pub mod FaceLaws
pub mod GridLaws
pub mod NumberLaws
pub mod PointLaws
pub mod RankLaws
pub mod ReachLaws
pub mod TriangleLaws
pub mod VertexLaws
pub mod WayLaws
pub mod ShapeLaws
pub mod SideLaws
pub mod SoundLaws
