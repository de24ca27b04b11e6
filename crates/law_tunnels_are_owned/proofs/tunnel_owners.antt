pub mod CuUps
pub mod Dus
pub mod Placed
pub mod Runs
pub mod UnitRuns
