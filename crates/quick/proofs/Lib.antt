pub mod Arms
pub mod Turns
pub mod Steps
