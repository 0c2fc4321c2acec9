pub mod Transcript
pub mod Theorems
