pub mod Answerers
