pub mod Rules
pub mod Counts
pub mod Closing
