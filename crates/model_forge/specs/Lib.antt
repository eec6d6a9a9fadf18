pub mod Discs
pub mod Forged
pub mod Fresh
pub mod Placed
pub mod Stream
