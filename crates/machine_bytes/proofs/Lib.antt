mod Copies
mod Fields
pub mod Back
