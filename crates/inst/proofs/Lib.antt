pub mod Table
pub mod Laws
pub mod Facts
mod Names
pub mod Parts
