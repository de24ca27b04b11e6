pub mod Ends
pub mod Limits
pub mod OfBearers
pub mod Three
