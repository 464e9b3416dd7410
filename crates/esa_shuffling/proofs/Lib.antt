pub mod Batching
pub mod Turning
