pub mod Registers
pub mod User
pub mod Addresses
pub mod Plan
