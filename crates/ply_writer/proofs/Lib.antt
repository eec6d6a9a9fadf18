mod Examples
pub mod DigitLaws
pub mod LineLaws
pub mod PieceLaws
pub mod TripleLaws
pub mod TextLaws
