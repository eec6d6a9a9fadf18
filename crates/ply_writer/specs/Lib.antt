pub mod Blocks
pub mod Pieces
pub mod Ply
pub mod PointTexts
pub mod Triples
