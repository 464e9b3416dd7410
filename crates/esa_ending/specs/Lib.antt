pub mod Cases
pub mod Endings
pub mod Seen
