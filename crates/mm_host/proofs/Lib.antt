mod Answers
pub mod Accepted
