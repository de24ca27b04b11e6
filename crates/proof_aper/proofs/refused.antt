pub mod WrongPlaces
pub mod Refused
