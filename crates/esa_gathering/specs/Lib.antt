pub mod Together
pub mod Merging
pub mod Crew
pub mod Intake
pub mod IntakeTaken
