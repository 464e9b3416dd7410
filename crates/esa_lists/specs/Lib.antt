pub mod Files
pub mod Ordered
pub mod Tally
