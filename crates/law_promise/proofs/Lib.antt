mod Ranges
mod Promise
