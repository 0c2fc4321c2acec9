mod Offsets
mod Calls
mod Examples
