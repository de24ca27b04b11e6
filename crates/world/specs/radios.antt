pub mod RadioTurns
