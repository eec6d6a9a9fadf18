pub mod Boxes
pub mod Laws
pub mod Places
pub mod Samples
pub mod Spans
pub mod Window
