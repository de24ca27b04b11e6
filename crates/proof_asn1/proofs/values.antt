pub mod OneItem
pub mod OneType
pub mod OneRow
pub mod OneModule
pub mod InBraces
pub mod Taken
pub mod NameTaken
pub mod MemberTaken
pub mod HeadTaken
pub mod TypeTaken
pub mod RowTaken
pub mod SetTaken
pub mod ModuleTaken
pub use Rattle.proof_asn1.proofs.asn1_proof_syntax as asn1_proof_syntax
