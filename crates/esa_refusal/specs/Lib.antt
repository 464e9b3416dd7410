pub mod Failures
pub mod Refusal
pub mod Source
pub mod Status
pub mod Stop
pub mod Words
