pub mod Opened
pub mod Shows
pub mod CuUps
pub mod Dus
pub mod Links
pub mod Placed
pub mod Runs
pub mod UnitRuns
