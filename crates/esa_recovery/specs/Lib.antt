pub mod Meaning
pub mod Members
pub mod Group
pub mod Groups
pub mod Sums
pub mod Recovered
