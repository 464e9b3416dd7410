pub mod UnderwayLaws
pub mod HeardLaws
pub mod WritingLaws
pub mod PartLaws
