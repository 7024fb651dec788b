pub mod Texts
pub mod Accesses
pub mod Ruling
pub mod Views
