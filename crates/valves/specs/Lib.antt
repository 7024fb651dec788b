pub mod Bytes
pub mod Valves
