mod Laws
pub mod Facts
mod Examples
