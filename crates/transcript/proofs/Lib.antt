pub mod Joined
pub mod Printing
pub mod Loads
pub mod Printed
