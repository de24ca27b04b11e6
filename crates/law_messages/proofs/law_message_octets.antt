mod Types
mod Determined
mod Said
mod Found
