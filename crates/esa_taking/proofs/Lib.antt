mod BatchSteps
pub mod Modes
pub mod Needed
mod Stages
pub mod TurnsLaws
