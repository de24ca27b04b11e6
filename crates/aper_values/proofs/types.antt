pub mod TreeLaws
pub mod Members
pub mod Bounded
pub mod Follow
