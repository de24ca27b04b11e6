pub mod Refinements
pub mod Asked
pub use Rattle.proof_bearer_refinement.specs.run_unit_inputs as run_unit_inputs
