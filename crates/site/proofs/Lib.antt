mod Each
mod Sets
mod Marks
mod Others
mod Placing
mod Ready
