-- Internal: what an index says of the lines that it is of.
pub mod Accepted
pub mod Index
pub mod Judge
pub mod Offers
pub mod Past
pub mod Phases
pub mod Queues
pub mod Receipts
