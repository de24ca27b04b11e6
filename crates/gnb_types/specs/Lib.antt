pub mod Hex
pub mod Names
pub mod NodeOrder
pub mod Nodes
pub mod Orders
pub mod Reasons
pub mod Refusals
pub mod Numbers
