mod BlockLaws
mod Lengths
pub mod LogLaws
