pub mod Lawful
mod Decided
mod InRange
