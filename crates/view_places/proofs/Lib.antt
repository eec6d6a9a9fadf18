pub mod BoxLaws
mod Examples
pub mod SpanLaws
pub mod ViewLaws
pub mod WindowLaws
