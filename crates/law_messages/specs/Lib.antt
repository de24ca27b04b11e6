pub mod message_versions
pub mod message_ranges
pub mod law_message_octets
pub mod message_rows
