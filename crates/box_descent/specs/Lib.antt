pub mod Founds
pub mod Looked
pub mod Plans
pub mod Runs
pub mod VisitorLaws
pub mod Visitors
