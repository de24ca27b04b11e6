mod Isolation
mod Statuses
