pub mod Split
pub mod Ends
pub mod Near
pub mod Faults
pub mod Standing
