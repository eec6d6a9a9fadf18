pub mod Counting
mod Examples
pub mod FreshLemmas
pub mod Joining
pub mod LabelLemmas
pub mod NamedLemmas
pub mod PlacedLemmas
