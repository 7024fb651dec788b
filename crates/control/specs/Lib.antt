pub mod Numbers
pub mod Registers
pub mod Fields
pub mod Instructions
pub mod Exceptions
pub mod TlbInstructions
pub mod Reset
