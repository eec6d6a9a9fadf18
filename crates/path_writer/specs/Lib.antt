pub mod Apart
pub mod Closed
pub mod Laws
pub mod Paths
pub mod Written
