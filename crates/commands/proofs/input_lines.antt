pub mod Sources
pub mod Standing
pub mod Stopped
pub mod Wholes
pub mod Near
