pub mod Laws
pub mod Replaying
