mod Outcomes
pub mod ValueLemmas
pub mod KeptLemmas
pub mod Acceptance
pub mod KeyLemmas
pub mod DropLemmas
