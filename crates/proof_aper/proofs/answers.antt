pub mod Standing
pub mod NumberFacts
pub mod ForthNumbers
pub mod ForthStrings
pub mod Forth
