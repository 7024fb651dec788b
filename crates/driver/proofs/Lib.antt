pub mod Driving
pub mod SoFar
