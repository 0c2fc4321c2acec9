pub mod Answers
mod Records
