pub mod First
mod Emptied
pub mod OnePage
