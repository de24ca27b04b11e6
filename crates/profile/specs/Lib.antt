pub mod Versions
pub mod profile_proof_text
pub mod profile_module
pub mod trees
pub mod types
pub mod xn
