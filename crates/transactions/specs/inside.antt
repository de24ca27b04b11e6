pub mod Ticks
