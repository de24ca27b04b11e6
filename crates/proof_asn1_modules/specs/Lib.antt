pub mod asn1_proof_module
pub mod ranks
