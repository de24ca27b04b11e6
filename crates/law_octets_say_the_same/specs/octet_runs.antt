pub mod Again
pub mod Printed
pub mod Faithful
