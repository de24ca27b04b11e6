pub mod Models
pub mod Orders
pub mod Assumptions
pub mod Places
pub use Rattle.bearer_defs.specs.chain_defs as chain_defs
