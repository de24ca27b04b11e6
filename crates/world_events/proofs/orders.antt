pub mod AsOrders
pub mod Given
pub mod Released
