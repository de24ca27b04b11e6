pub mod Ends
pub mod UplinkEnds
