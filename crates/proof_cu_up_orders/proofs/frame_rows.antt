pub mod Sends
pub mod Still
pub mod Rows
