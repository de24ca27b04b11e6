pub mod Numbers
pub mod Near
pub mod Pdus
pub mod Tests
