pub mod Call
pub mod Meaning
pub mod Explains
pub mod Answers
