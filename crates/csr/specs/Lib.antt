pub mod Words
pub mod Exceptions
pub mod Mode
pub mod Interrupts
pub mod Timer
pub mod Window
pub mod TlbRegisters
