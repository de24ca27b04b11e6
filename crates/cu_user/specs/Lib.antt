pub mod Users
pub mod cu_up_rows
