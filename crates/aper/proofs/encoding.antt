mod Components
mod Members
mod Open
mod Puts
