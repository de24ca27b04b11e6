pub mod Forms
pub mod Loose
pub mod Wrong
pub mod Sets
