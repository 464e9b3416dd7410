pub mod Kept
pub mod Offsets
