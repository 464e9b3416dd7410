pub mod TraceLaws
pub mod AttemptLaws
pub mod NumberLaws
