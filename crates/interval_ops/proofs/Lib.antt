pub mod CountLemmas
mod Examples
pub mod HullCountLaws
pub mod HullLaws
pub mod Monotone
pub mod QuotientOrder
