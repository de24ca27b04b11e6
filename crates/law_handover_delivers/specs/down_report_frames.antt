pub mod Statuses
pub mod Sent
