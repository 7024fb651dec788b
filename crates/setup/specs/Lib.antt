pub mod Lines
pub mod Text
