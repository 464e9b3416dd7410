pub mod Blocks
pub mod Counting
pub mod Fixed
pub mod Laying
pub mod Logs
pub mod Memory
pub mod OnFile
pub mod Recording
