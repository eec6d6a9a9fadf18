pub mod Laws
pub mod ModelTexts
pub mod Readings
