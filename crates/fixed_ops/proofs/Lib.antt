pub mod CountLaws
pub mod DigitLaws
mod Examples
pub mod Lists
pub mod NumeralLaws
pub mod PairLaws
pub mod PartLaws
pub mod PointLaws
pub mod QuotientLaws
pub mod ResultLaws
pub mod RootLaws
pub mod RoundingLaws
pub mod SpellingLaws
pub mod TextLaws
pub mod WholeLaws
