pub mod RefusedF1
pub mod RefusedE1
pub mod RefusedXn
pub mod RefusedCore
