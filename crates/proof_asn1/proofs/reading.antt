pub mod Splits
pub mod Ordered
pub mod Alone
pub mod Texts
pub mod Once
pub mod Readings
pub use Rattle.proof_asn1.proofs.asn1_proof_syntax as asn1_proof_syntax
