pub mod SameAddresses
pub mod Shifting
pub mod Splitting
pub mod Locking
