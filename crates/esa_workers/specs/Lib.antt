pub mod Distributions
pub mod Meetings
pub mod Owners
pub mod Posts
pub mod Works
