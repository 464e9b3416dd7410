pub mod Contents
pub mod Drained
pub mod Fetched
pub mod Over
pub mod Pressed
pub mod Records
pub mod Stepped
