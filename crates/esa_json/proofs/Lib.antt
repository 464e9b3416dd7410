pub mod ObjectLemmas
pub mod ValueLemmas
