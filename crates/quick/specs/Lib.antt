pub mod Quick
pub mod Courses
