pub mod Left
mod Scans
mod Instructions
mod Rests
mod Ends
mod Loads
mod Stores
mod Fillings
mod Links
mod Seeks
pub mod Passing
