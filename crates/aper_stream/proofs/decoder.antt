pub mod Front
pub mod Refusals
pub mod Pieces
pub mod Ends
pub mod Beginning
pub mod Fed
pub mod Turned
