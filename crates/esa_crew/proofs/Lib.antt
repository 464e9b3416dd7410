mod Beginning
mod Ending
pub mod Finishing
mod Loading
mod Posting
mod Replaying
