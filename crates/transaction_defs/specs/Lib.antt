pub mod Callers
pub mod Callees
pub mod Applied
pub mod Taken
