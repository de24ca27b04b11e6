pub use Rattle.proof_asn1.specs.asn1_proof_syntax as asn1_proof_syntax
