pub mod CompletionLaws
pub mod CutLaws
pub mod DecisionLaws
pub mod FrontLaws
pub mod HistoryLaws
pub mod OutputLaws
