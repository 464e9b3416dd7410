pub mod Attempts
pub mod Loading
pub mod Output
pub mod Records
pub mod Runs
