pub mod ItemLemmas
pub mod ReportLemmas
pub mod ZeroLemmas
