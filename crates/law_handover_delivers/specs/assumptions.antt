pub mod WellLinked
pub mod Assumed
pub mod Worked
