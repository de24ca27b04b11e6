pub mod Stays
pub mod Plain
pub mod Told
pub mod Shut
