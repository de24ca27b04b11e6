pub mod Membership
pub mod Rows
pub mod Followed
