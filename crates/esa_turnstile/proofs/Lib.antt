pub mod Totals
pub mod Prefixes
pub mod Rebuilt
mod Rising
pub mod Draws
pub mod Looks
pub mod Counts
pub mod Advances
pub mod Reseated
pub mod Notes
pub mod Dealing
pub mod Closing
pub mod Gathering
pub mod EachNumber
