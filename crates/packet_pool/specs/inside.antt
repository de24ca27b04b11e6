-- Internal: what ties the functions of the pool together.
pub mod Regions
pub mod Pools
pub mod Accounts
pub mod Contents
