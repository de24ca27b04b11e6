pub mod SameMessages
pub mod LinkRows
pub mod read_ranges
