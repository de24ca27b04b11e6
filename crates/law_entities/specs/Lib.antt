pub mod pool
pub mod law_pdcp
