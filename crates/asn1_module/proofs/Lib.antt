pub mod JudgementLemmas
pub mod TypeCount
pub mod SimpleTypes
pub mod LinkLemmas
pub mod RowLinks
pub mod Facts
pub mod NamesByNumber
