pub mod Digests
pub mod Replays
