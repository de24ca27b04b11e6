pub mod Hops
pub mod Down
pub mod Up
