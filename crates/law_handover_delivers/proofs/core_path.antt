pub mod Cores
pub mod Orders
pub mod Leads
pub mod Runs
pub mod Worked
