pub mod Choices
pub mod HexLemmas
pub mod OrderLemmas
pub mod Refusals
