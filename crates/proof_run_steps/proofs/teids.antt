pub mod Grows
pub mod Bearers
pub mod Still
pub mod CuUps
pub mod Dus
pub mod Placed
pub mod Runs
pub mod UnitRuns
