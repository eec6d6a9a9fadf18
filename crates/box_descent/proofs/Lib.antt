pub mod Descents
pub mod Groups
pub mod Longest
pub mod RunLemmas
pub mod Traced
