mod Turns
mod Written
mod Loops
mod Choices
