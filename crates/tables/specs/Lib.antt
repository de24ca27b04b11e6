pub mod Lends
pub mod Queues
pub mod ShelfLends
pub mod Shelves
pub mod Tables
