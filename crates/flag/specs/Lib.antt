pub mod Flags
pub mod Jumps
