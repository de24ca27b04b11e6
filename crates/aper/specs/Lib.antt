pub mod PathText
pub mod Refusals
pub mod inside
pub mod measuring
