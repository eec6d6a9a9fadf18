pub mod Closed
pub mod Frames
pub mod Laws
pub mod Manifold
pub mod Places
pub mod Separating
