pub mod Flips
pub mod Judged
pub mod Laid
pub mod Readers
