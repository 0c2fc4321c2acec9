-- The definitions of binary64, and the theorems on them as statements.
pub mod Rounding
pub mod Binary64
pub mod SpecialCases
pub mod Theorems
