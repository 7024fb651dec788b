mod Flags
mod Sharing
