pub mod Cases
pub mod Tests
pub mod Loads
pub mod Lists
pub mod Does
mod Sound
pub mod Valid
pub mod Tables
pub mod Marks
mod PlainNaN
pub mod Refusals
pub mod Fuel
pub mod Histories
mod Only
pub mod Endings
pub mod Runs
