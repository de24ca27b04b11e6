pub mod Invariants
