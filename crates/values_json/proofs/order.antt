pub mod Listed
mod Turns
