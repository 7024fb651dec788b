pub mod Word
pub mod Division
