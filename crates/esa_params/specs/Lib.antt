pub mod Form
pub mod Limits
pub mod Numbers
pub mod Sizes
pub mod Slots
