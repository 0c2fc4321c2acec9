pub mod Accepted
pub mod Answered
