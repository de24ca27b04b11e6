pub mod Owners
pub mod Laid
pub mod Held
pub mod Placed
pub mod Runs
