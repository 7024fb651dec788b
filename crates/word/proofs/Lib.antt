pub mod Dividing
mod Extending
