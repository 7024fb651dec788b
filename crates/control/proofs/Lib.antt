mod Exchanging
mod ReadingBack
mod Resetting
