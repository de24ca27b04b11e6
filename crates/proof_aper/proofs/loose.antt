pub mod Following
pub mod FollowNumbers
pub mod FollowStrings
pub mod FollowForms
pub mod Determined
