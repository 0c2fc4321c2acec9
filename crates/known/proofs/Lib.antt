pub mod Keeping
pub mod Records
