pub mod Loads
pub mod Posts
pub mod Replays
