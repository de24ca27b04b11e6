pub mod Rooms
pub mod Hops
pub mod Asks
pub mod Goes
pub mod Steps
pub mod Worked
