pub mod Row
pub mod Worked
pub mod Forms
pub mod Forms2
pub mod Messages
pub mod Refusals
pub mod Fragments
