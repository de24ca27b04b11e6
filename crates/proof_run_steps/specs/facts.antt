pub mod Facts
pub mod UnitFacts
pub mod TellFacts
pub mod Later
