mod Examples
pub mod LawProofs
