pub mod OnRadios
pub mod RadioLists
