pub mod GridExamples
