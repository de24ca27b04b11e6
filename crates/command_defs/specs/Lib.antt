pub mod Statuses
pub mod Outside
pub mod Output
pub mod Ends
pub mod input_defs
