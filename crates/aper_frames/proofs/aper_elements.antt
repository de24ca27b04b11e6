pub mod ChoiceLemmas
pub mod ContainerLemmas
pub mod MessageLemmas
pub mod Weighing
