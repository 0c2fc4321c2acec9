pub mod Courses
pub mod Following
pub mod Running
pub mod Loop
pub mod Edges
pub mod Cells
