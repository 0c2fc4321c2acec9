-- The proofs, in the order in which they build on each other.
pub mod Closest
pub mod Library
pub mod Unbounded
pub mod Bounded
pub mod Unique
pub mod Exact
pub mod Special
pub mod Rounded
mod Vectors
