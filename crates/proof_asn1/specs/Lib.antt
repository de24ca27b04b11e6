pub mod asn1_proof_syntax
pub mod items
pub mod values
