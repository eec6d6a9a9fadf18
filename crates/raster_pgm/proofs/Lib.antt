mod Examples
pub mod Heads
