pub mod Rewritten
pub mod Calls
pub mod Host
