-- The proofs, in the order in which they build on each other.
pub mod Encode
pub mod Decode
pub mod Operations
pub mod Conversions
