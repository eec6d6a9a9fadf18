pub mod Image
pub mod Pgm
pub mod Samples
