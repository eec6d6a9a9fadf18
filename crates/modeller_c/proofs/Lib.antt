pub mod CallLemmas
pub mod WordLemmas
