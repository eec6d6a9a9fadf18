pub mod Count
pub mod Held
pub mod ReadSource
pub mod SinkView
pub mod SourceView
pub mod Took
pub mod WriteSink
