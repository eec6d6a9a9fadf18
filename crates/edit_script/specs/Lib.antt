pub mod Commands
pub mod Keywords
pub mod Marks
pub mod Reasons
pub mod ScriptLaws
pub mod Scripts
