pub mod Text
pub mod Outputs
