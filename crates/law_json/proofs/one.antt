pub mod Members
pub mod Trees
pub mod Inside
pub mod Sequences
pub mod Law
