pub mod CommandLaws
pub mod CommandLemmas
mod Examples
pub mod KeywordLemmas
pub mod LineStarts
pub mod MarkLemmas
pub mod ReasonLemmas
pub mod ScriptExact
pub mod ScriptLemmas
pub mod SettingLemmas
