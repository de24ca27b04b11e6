pub mod um_pdcp
pub mod run
pub mod text
