pub mod Tables
pub mod Frames
pub mod RadioPdus
pub mod Renewed
pub mod Placing
