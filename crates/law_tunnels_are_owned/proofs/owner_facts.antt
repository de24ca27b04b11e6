pub mod Owners
pub mod Found
pub mod UpEnds
pub mod UpContexts
pub mod UpGiven
