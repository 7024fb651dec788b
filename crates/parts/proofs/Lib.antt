pub mod Storing
pub mod LowBytes
