pub mod Batch
pub mod BatchTaken
pub mod Shuffle
pub mod Drawn
pub mod Plan
pub mod PlanTaken
