pub mod Making
pub mod SoFar
pub mod GivingBack
pub mod Lasting
pub mod ReadingBack
