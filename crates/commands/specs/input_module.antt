pub mod Header
pub mod Text
pub mod Module
pub mod Taking
pub mod inside
