mod Examples
pub mod GivenLaws
pub mod GrammarLaws
pub mod JobLaws
pub mod NameLaws
pub mod ReasonLaws
mod WordExamples
pub mod WordLaws
