pub mod BagLemmas
pub mod Entries
pub use Rattle.links.proofs.link_tallies as link_tallies
