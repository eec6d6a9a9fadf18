pub mod AcceptedLemmas
pub mod Arrivals
mod ChangeLemmas
pub mod Departures
pub mod Examples
pub mod Growth
pub mod InverseLemmas
pub mod KeptLemmas
pub mod ListLemmas
pub mod Lookups
pub mod ModelLemmas
pub mod MoveLemmas
pub mod NamePlaces
pub mod NamedLemmas
pub mod OperandPlaces
pub mod Places
pub mod PushLemmas
pub mod Readers
pub mod ReversalLemmas
pub mod Rewrites
pub mod SurgeryLemmas
pub mod SurgeryModels
mod TableExamples
pub mod TokenBytes
pub mod UseLemmas
pub mod ValueLemmas
