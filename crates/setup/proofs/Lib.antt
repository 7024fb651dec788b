mod FirstLine
pub mod Forms
