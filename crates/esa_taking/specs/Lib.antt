pub mod Run
pub mod RunTaken
pub mod StoredTurns
pub mod Wanted
