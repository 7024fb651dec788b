pub mod Answers
pub mod Listings
pub mod Refused
pub mod Sessions
pub mod WholeText
pub mod Worked
