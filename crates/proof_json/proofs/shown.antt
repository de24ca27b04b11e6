pub mod Words
pub mod Sequences
pub mod Choices
pub mod Law
