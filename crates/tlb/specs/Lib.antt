pub mod Entries
pub mod Searching
pub mod Invalidating
