pub mod Happenings
pub mod Down
pub mod Up
pub mod Starts
