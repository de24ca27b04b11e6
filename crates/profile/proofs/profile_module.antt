pub mod Alike
pub mod Order
pub mod Differing
pub mod Built
pub mod Inside
pub mod Turns
pub mod TypeNames
