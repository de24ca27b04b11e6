pub mod Comings
pub mod HeldTests
pub mod Reading
