pub mod Examples
pub mod Reach
