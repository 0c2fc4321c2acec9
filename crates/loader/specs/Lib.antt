pub mod Refusals
pub mod Loading
pub mod Reading
pub mod Linking
pub mod Slots
