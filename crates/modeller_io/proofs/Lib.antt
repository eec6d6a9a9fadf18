mod Examples
pub mod Gains
pub mod Taking
