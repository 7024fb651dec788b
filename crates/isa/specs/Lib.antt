pub mod Fields
pub mod Table
pub mod Decoding
pub mod Privilege
