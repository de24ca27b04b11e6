pub mod Worked
pub mod OfRuns
