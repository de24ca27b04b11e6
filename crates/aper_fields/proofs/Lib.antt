pub mod Followed
pub mod Opened
pub mod Closed
pub mod CountLemmas
pub mod Signed
pub mod PartLemmas
pub mod IntegerLemmas
