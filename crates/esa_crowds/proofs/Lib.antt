pub mod OrderLaws
pub mod PlaceLaws
pub mod RankLaws
pub mod SortedLaws
pub mod TableLaws
pub mod MarkLaws
pub mod SentLaws
