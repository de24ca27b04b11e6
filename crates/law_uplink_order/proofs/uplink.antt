pub mod Runs
pub mod Laws
pub mod Reports
pub mod Relayed
pub mod Rest
