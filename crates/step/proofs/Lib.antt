pub mod Dispatch
pub mod Whole
