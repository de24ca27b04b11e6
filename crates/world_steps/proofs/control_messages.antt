pub mod GivenControlMessages
pub mod NeverSpent
pub mod NodeTurns
pub mod Pumping
