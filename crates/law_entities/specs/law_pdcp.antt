pub mod Confirmations
