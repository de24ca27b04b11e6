pub mod SaysF1
pub mod SaysE1
pub mod SaysXn
pub mod SaysCore
pub mod SaysToken
