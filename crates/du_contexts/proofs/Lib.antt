pub mod Bounds
pub mod TunnelSteps
pub mod Reading
pub mod RadioReading
pub mod Steps
pub mod BearersMade
pub mod RenewSteps
pub mod PlaceSteps
