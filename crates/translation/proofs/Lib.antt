mod Ways
pub mod OneAddress
pub mod OnePage
mod AllLaws
