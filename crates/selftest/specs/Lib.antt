pub mod Addition
pub mod Examples
pub mod Reach
