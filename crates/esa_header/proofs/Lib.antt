pub mod HeaderLaws
pub mod WriteLaws
pub mod PieceLaws
