pub mod Printing
pub mod Refusing
pub mod Told
pub mod Worked
