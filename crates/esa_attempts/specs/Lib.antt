pub mod Batch
pub mod Odd
pub mod Replays
