pub mod Known
pub mod Keeps
