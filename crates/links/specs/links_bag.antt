pub mod Answers
pub mod Bags
pub mod inside
pub use Rattle.links.specs.link_tallies as link_tallies
