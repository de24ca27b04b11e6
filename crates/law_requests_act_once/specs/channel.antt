pub mod Ends
pub mod Exactly
pub mod Example
pub mod Moves
pub mod Replies
